-- The numbers of expressions and calls that a text spells are words.
use Rattle.std.proofs.Common.{◌≡◌, ℕ, ◌^◌, ◌<◌, Bool, true, List, [], ◌∷◌, ◌++◌, refl, sym, ap, ◌∙◌, arith}
use Rattle.std.proofs.lemmas.Bool.Decides.{nat_tests}
use Rattle.gr_meets.specs.Lists.{Separated, Enclosed}
use Rattle.gr_syntax.specs.declared.syntax.BinOp.{BinOp}
use Rattle.gr_syntax.specs.declared.syntax.CallText.{CallText}
use Rattle.gr_syntax.specs.declared.syntax.Name.{Name}
use Rattle.gr_syntax.specs.declared.syntax.Number.{Number}
use Rattle.gr_syntax.specs.declared.syntax.Expr.{Expr}
use Rattle.gr_syntax.specs.declared.syntax.Expr.TheVariants as expr
use Rattle.gr_syntax.specs.declared.syntax.Expr.TheFolds.{fold-roll-Expr}
use Rattle.gr_syntax.specs.declared.syntax.Expr.TheOpen.{Expr-F}
use Rattle.gr_text.specs.declared.token.Sign.TheVariants as signs
use Rattle.gr_expressions.specs.Expressions.{IsUnary, IsLevel, IsComparison, IsExpr, IsArgs, IsOperation, IsCall}
use Rattle.gr_expressions.specs.Tok.{Tok, Toks}
use Rattle.gr_text.proofs.Runs.{and_both}
use Rattle.gr_print.specs.Printed.{AreWritten}
use Rattle.gr_print.proofs.PrintsStmts.{front_written}
use Rattle.gr_fits_words.specs.Literals.{number_fits, expr_step, expr_fits, exprs_fit}

pub back_written : (front back : Toks) → AreWritten (front ++ back) → AreWritten back
back_written [] back written = written
back_written (tok ∷ front) back written = back_written front back written.1

pub number_fit : (number : Number) → number.value < 2 ^ 64 → number_fits number ≡ true
number_fit number h = grind (arith, nat_tests, h)

-- ---- expressions

number_in : (number : Number) → number.value < 2 ^ 64 → expr_fits (expr.Lit number) ≡ true
number_in number h = ap expr_fits (sym (expr.rolls-Lit number)) ∙ fold-roll-Expr Bool expr_step (Expr-F.Lit number) ∙ number_fit number h

local_in : (name : Name) → expr_fits (expr.Local name) ≡ true
local_in name = ap expr_fits (sym (expr.rolls-Local name)) ∙ fold-roll-Expr Bool expr_step (Expr-F.Local name)

not_in : (inner : Expr) → expr_fits inner ≡ true → expr_fits (expr.Not inner) ≡ true
not_in inner h = ap expr_fits (sym (expr.rolls-Not inner)) ∙ fold-roll-Expr Bool expr_step (Expr-F.Not inner) ∙ h

two_in : (op : BinOp) (left right : Expr) → expr_fits left ≡ true → expr_fits right ≡ true → expr_fits (expr.Two op left right) ≡ true
two_in op left right h k = ap expr_fits (sym (expr.rolls-Two op left right)) ∙ fold-roll-Expr Bool expr_step (Expr-F.Two op left right) ∙ and_both (expr_fits left) (expr_fits right) h k

mutual
  unary_fits : {depth count : ℕ} {tokens : Toks} {inner : Expr} → IsUnary depth tokens inner count → AreWritten tokens → expr_fits inner ≡ true
  unary_fits (IsUnary.number {value = number}) h = number_in number h.0
  unary_fits (IsUnary.local {name = name}) h = local_in name
  unary_fits (IsUnary.not {inner = inner} one) h = not_in inner (unary_fits one h.1)
  unary_fits (IsUnary.group {inside = inside} spelled) h = comparison_fits spelled (front_written inside _ h.1)

  level_fits : {depth level count : ℕ} {tokens : Toks} {inner : Expr} → IsLevel depth level tokens inner count → AreWritten tokens → expr_fits inner ≡ true
  level_fits (IsLevel.unary one) h = unary_fits one h
  level_fits (IsLevel.tighter one) h = level_fits one h
  level_fits (IsLevel.two {front = front} {left = left} {right = right} op is one other) h =
      two_in op left right (level_fits one (front_written front _ h)) (level_fits other (back_written front _ h).1)

  comparison_fits : {depth count : ℕ} {tokens : Toks} {inner : Expr} → IsComparison depth tokens inner count → AreWritten tokens → expr_fits inner ≡ true
  comparison_fits (IsComparison.one one) h = level_fits one h
  comparison_fits (IsComparison.compared {front = front} {left = left} {right = right} op is one other) h =
      two_in op left right (level_fits one (front_written front _ h)) (level_fits other (back_written front _ h).1)

pub expr_fit : {depth : ℕ} {tokens : Toks} {inner : Expr} → IsExpr depth tokens inner → AreWritten tokens → expr_fits inner ≡ true
expr_fit found h = comparison_fits found.spelled h

-- ---- arguments and calls

some_fit : {depth : ℕ} {tokens : Toks} {args : List Expr} → Separated (Tok.sign signs.Comma) (IsExpr depth) tokens args → AreWritten tokens → exprs_fit args ≡ true
some_fit (Separated.last {only = only} one) h = and_both (expr_fits only) true (expr_fit one h) refl
some_fit (Separated.before {front = front} {first = first} {others = others} one more) h =
    and_both (expr_fits first) (exprs_fit others) (expr_fit one (front_written front _ h)) (some_fit more (back_written front _ h).1)

enclosed_fit : {depth : ℕ} {tokens : Toks} {args : List Expr} → Enclosed (Tok.sign signs.RightParen) (Tok.sign signs.Comma) (IsExpr depth) tokens args → AreWritten tokens → exprs_fit args ≡ true
enclosed_fit Enclosed.empty h = refl
enclosed_fit (Enclosed.some {inside = inside} more) h = some_fit more (front_written inside _ h)

pub args_fit : {depth : ℕ} {tokens : Toks} {args : List Expr} → IsArgs depth tokens args → AreWritten tokens → exprs_fit args ≡ true
args_fit IsArgs.missing h = refl
args_fit (IsArgs.brackets more) h = enclosed_fit more h.1

operation_fits : {depth : ℕ} {object : Name} {tokens : Toks} {done : CallText} → IsOperation depth object tokens done → AreWritten tokens → exprs_fit done.args ≡ true
operation_fits (IsOperation.plain more) h = args_fit more h.1
operation_fits (IsOperation.reducing more) h = args_fit more h.1.1

pub call_fits : {depth : ℕ} {tokens : Toks} {done : CallText} → IsCall depth tokens done → AreWritten tokens → exprs_fit done.args ≡ true
call_fits (IsCall.call object operation) h = operation_fits operation h.1.1
