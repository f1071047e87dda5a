-- The words of a loop's bounds and grain.
use Rattle.std.specs.Prelude.{ℕ, List, ◌∷◌, Option}
use Rattle.std.specs.Option.{option_map, option_and_then}
use Rattle.gr_lang.specs.Locals.{Locals}
use Rattle.gr_lang.specs.Expressions.{value}
use Rattle.gr_syntax.specs.declared.syntax.Expr.{Expr}

-- None where one divides by 0.
abbrev pub range_words : Locals → Expr → Expr → Expr → Option (ℕ × ℕ × ℕ)
range_words locals lo hi grain = option_and_then (λ a. option_and_then (λ b. option_map (λ c. (a, b, c)) (value locals grain)) (value locals hi)) (value locals lo)

-- Bounds, grain and arguments as one list of words.
abbrev pub ranged : Option (ℕ × ℕ × ℕ) → Option (List ℕ) → Option (List ℕ)
ranged range rest = option_and_then (λ r. option_map (λ ws. r.0 ∷ r.1 ∷ r.2 ∷ ws) rest) range
