-- No part of the parser leaves more tokens than it was given.
use Rattle.std.proofs.Common.{ℕ, ◌≤◌, length, Result, Ok, Err, IfOk}
use Rattle.gr_meets.specs.Parsers.{Parser}
use Rattle.gr_meets.specs.LanguageWords.{Shortens}
use Rattle.gr_meets.proofs.Agrees.{shortens}
use Rattle.gr_expressions.specs.declared.fault.Stop.{Stop}
use Rattle.gr_expressions.specs.Tok.{Tok, Toks}
use Rattle.gr_expressions.specs.OperandsWords.{name, number, expr}
use Rattle.gr_expressions.specs.GivesWords.{Gives}
use Rattle.gr_expressions.proofs.Calls.{name_meets, number_meets}
use Rattle.gr_expressions.proofs.Exprs.{expr_meets}

pub name_shortens : Shortens name
name_shortens = shortens name_meets

pub number_shortens : Shortens number
number_shortens = shortens number_meets

pub expr_shortens : (d : ℕ) → Shortens (expr d)
expr_shortens d = shortens (expr_meets d)

-- So does the code that gives the same.
pub gives_shorter : {A : Type 0} {P : Parser Tok A} → Shortens P → (ts : Toks) (r : Result (A × Toks) Stop) → Gives (λ x. x) r (P ts) → IfOk r (λ x. length x.1 ≤ length ts)
gives_shorter h ts (Ok x) g = h.less ts x.0 x.1 g
gives_shorter h ts (Err stop) g = tt {0}
