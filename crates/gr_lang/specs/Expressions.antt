-- The word of an expression, or none where it divides by 0. Operands are evaluated from left to right, and words wrap at 2^64.
use Rattle.std.specs.Prelude.{ℕ, Bool, ◌+◌, ◌-◌, ◌*◌, ◌/◌, ◌%◌, ◌^◌, ◌==◌, not, nat_lt, nat_le, bit_and, bit_or, bit_xor, if◌then◌else◌, List, [], ◌∷◌, Option, Some, None}
use Rattle.std.specs.Option.{option_map, option_and_then}
use Rattle.gr_lang.specs.Locals.{Locals, word_of}
use Rattle.gr_syntax.specs.declared.syntax.Expr.{Expr, fold-Expr}
use Rattle.gr_syntax.specs.declared.syntax.Expr.TheOpen.{Expr-F}
use Rattle.gr_syntax.specs.declared.syntax.BinOp.{BinOp}
use Rattle.gr_syntax.specs.declared.syntax.BinOp.TheVariants as sign

abbrev pub number_of : Bool → ℕ
number_of b = if b then 1 else 0

-- What a binary sign makes of two words.
abbrev pub combine : BinOp → ℕ → ℕ → Option ℕ
combine sign.Eq a b = Some (number_of (a == b))
combine sign.Ne a b = Some (number_of (not (a == b)))
combine sign.Lt a b = Some (number_of (nat_lt a b))
combine sign.Le a b = Some (number_of (nat_le a b))
combine sign.Gt a b = Some (number_of (nat_lt b a))
combine sign.Ge a b = Some (number_of (nat_le b a))
combine sign.Or a b = Some (bit_or a b)
combine sign.Xor a b = Some (bit_xor a b)
combine sign.And a b = Some (bit_and a b)
combine sign.Add a b = Some ((a + b) % 2 ^ 64)
combine sign.Sub a b = Some ((a + 2 ^ 64 - b) % 2 ^ 64)
combine sign.Mul a b = Some ((a * b) % 2 ^ 64)
combine sign.Div a b = if b == 0 then None else Some (a / b)
combine sign.Rem a b = if b == 0 then None else Some (a % b)

-- The word of one node, from the words of its operands.
abbrev pub value_step : Locals → Expr-F (Option ℕ) → Option ℕ
value_step locals (Expr-F.Lit number) = Some number.value
value_step locals (Expr-F.Local name) = Some (word_of locals name.text)
value_step locals (Expr-F.Not inner) = option_map (λ w. number_of (w == 0)) inner
value_step locals (Expr-F.Two sign left right) = option_and_then (λ a. option_and_then (λ b. combine sign a b) right) left

abbrev pub value : Locals → Expr → Option ℕ
value locals = fold-Expr (Option ℕ) (value_step locals)

-- The words of some expressions, from left to right.
abbrev pub values : Locals → List Expr → Option (List ℕ)
values locals [] = Some []
values locals (e ∷ es) = option_and_then (λ w. option_map (λ ws. w ∷ ws) (values locals es)) (value locals e)
