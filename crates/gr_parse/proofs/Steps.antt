-- One step of each part of the parser that goes by a number.
use Rattle.std.proofs.Common.{◌≡◌, ℕ, zero, suc, ◌-◌, ◌<◌, Bool, true, false, cond, Option, Some, None, List, [], ◌∷◌, length, Ok, Err, refl, sym, ◌∙◌, ap, arith}
use Rattle.gr_meets.specs.Parsers.{and_then, ◌>>=◌, ◌>>◌, pure, sees, peek, next, expect, halts, run}
use Rattle.gr_syntax.specs.declared.syntax.Name.{Name}
use Rattle.gr_syntax.specs.declared.syntax.Stmt.{Stmt}
use Rattle.gr_text.specs.declared.token.Sign.TheVariants as signs
use Rattle.gr_expressions.specs.Tok.{Tok, is_sign, Toks}
use Rattle.gr_expressions.specs.TokWords.{is_missing, name_of}
use Rattle.gr_parse.specs.ParsingWords.{name_or, named_statement, statement_with, statement, block, braces}

statement_is : (turns d : ℕ) (ts : Toks) → statement turns d ts ≡ statement_with turns d (block turns d) ts
unfolding statement block
statement_is turns zero ts = refl
statement_is turns (suc d) ts = refl

pub statement_named : (turns d : ℕ) (n : Name) (ts : Toks) → peek name_of ts ≡ Some n → statement turns d ts ≡ named_statement turns d n (next ts)
unfolding statement_with
statement_named turns d n ts h = statement_is turns d ts ∙ ap (λ (o : Option Name). name_or turns d (block turns d) o ts) h

pub statement_other : (turns d : ℕ) (ts : Toks) → peek name_of ts ≡ None → statement turns d ts ≡ name_or turns d (block turns d) None ts
unfolding statement_with
statement_other turns d ts h = statement_is turns d ts ∙ ap (λ (o : Option Name). name_or turns d (block turns d) o ts) h

pub block_zero : (turns d : ℕ) (ts : Toks) → d ≡ 0 → sees is_missing ts ≡ false → block turns d ts ≡ Err (length ts)
unfolding block expect
block_zero turns zero ts z h = ap (λ (v : Bool). and_then {B = List Stmt} (cond v (Ok (tt {0}, next ts)) (Err (length ts))) (λ _ us. Ok ([], us))) h
block_zero turns (suc d) ts z h = absurd (omega (arith, z))

pub block_step : (turns d : ℕ) (ts : Toks) → 0 < d
    → block turns d ts ≡ (expect (is_sign signs.LeftBrace) >> (run (is_sign signs.RightBrace) (statement turns (d - 1)) turns [] >>= λ xs. expect (is_sign signs.RightBrace) >> pure xs)) ts
unfolding block braces
block_step turns zero ts h = absurd (omega (arith, h))
block_step turns (suc d) ts h = let one : suc d - 1 ≡ d = omega arith in
    sym (ap (λ (m : ℕ). (expect (is_sign signs.LeftBrace) >> (run (is_sign signs.RightBrace) (statement turns m) turns [] >>= λ xs. expect (is_sign signs.RightBrace) >> pure xs)) ts) one)

-- A list that halts nowhere but at its end has none left there.
pub never_end : (stop : Tok → Bool) (ts : Toks) → ((t : Tok) → stop t ≡ false) → halts stop ts ≡ true → ts ≡ []
unfolding halts
never_end stop [] h k = refl
never_end stop (t ∷ ts) h k = absurd (let bad : true ≡ false = sym k ∙ h t in cc)
