-- One step of each part of the parser that goes by a number.
use Rattle.std.proofs.Common.{◌≡◌, ℕ, zero, suc, ◌-◌, ◌^◌, ◌<◌, Bool, true, false, cond, List, [], ◌∷◌, length, Ok, Err, refl, sym, ap, arith}
use Rattle.gr_meets.specs.Parsers.{Parser, and_then, sees, next, expect, level, levels, chain, commas, separated}
use Rattle.gr_syntax.specs.declared.syntax.Expr.{Expr}
use Rattle.gr_expressions.specs.Tok.{Tok, Toks}
use Rattle.gr_expressions.specs.TokWords.{operator, is_missing}
use Rattle.gr_expressions.specs.OperandsWords.{Counted, two, plenty, args}

pub levels_step : (u : ℕ → Parser Tok Counted) (l b : ℕ) (ts : Toks) → 0 < l
    → levels operator two u l b ts ≡ and_then (levels operator two u (l - 1) b ts) (λ x. chain (operator (l - 1)) two (levels operator two u (l - 1)) (suc x.1) x)
unfolding levels level
levels_step u zero b ts h = absurd (omega (arith, h))
levels_step u (suc l) b ts h = let one : suc l - 1 ≡ l = omega arith in
    sym (ap (λ (m : ℕ). and_then (levels operator two u m b ts) (λ x. chain (operator m) two (levels operator two u m) (suc x.1) x)) one)

pub plenty_is : plenty ≡ 2 ^ 64
unfolding plenty
plenty_is = refl

pub separated_step : {A : Type 0} (comma : Tok → Bool) (p : Parser Tok A) (n : ℕ) (ts : Toks) → separated comma p n ts ≡ and_then (p ts) (λ x. commas comma p n (x ∷ []))
unfolding separated
separated_step comma p n ts = refl

-- Behind a token there are fewer.
pub next_less : (is : Tok → Bool) (ts : Toks) → sees is ts ≡ true → length (next ts) < length ts
unfolding sees next
next_less is [] h = absurd cc
next_less is (t ∷ ts) h = omega arith

pub args_zero : (turns d : ℕ) (ts : Toks) → d ≡ 0 → sees is_missing ts ≡ false → args turns d ts ≡ Err (length ts)
unfolding args expect
args_zero turns zero ts z h = ap (λ (v : Bool). and_then {B = List Expr} (cond v (Ok (tt {0}, next ts)) (Err (length ts))) (λ _ us. Ok ([], us))) h
args_zero turns (suc d) ts z h = absurd (omega (arith, z))
