-- A loop's bounds, its grain and its arguments, evaluated as one list.
use Rattle.std.proofs.Common.{◌≡◌, ℕ, List, ◌∷◌, Option, Some, None, refl}
use Rattle.std.specs.Option.{option_map, option_and_then}
use Rattle.gr_lang.specs.Locals.{Locals}
use Rattle.gr_lang.specs.Expressions.{value, values}
use Rattle.gr_syntax.specs.declared.syntax.Expr.{Expr}
use Rattle.gr_steps.specs.RangeWords.{range_words, ranged}

joined : (a b c : Option ℕ) (rest : Option (List ℕ))
    → option_and_then (λ w. option_map (λ ws. w ∷ ws) (option_and_then (λ v. option_map (λ ws. v ∷ ws) (option_and_then (λ u. option_map (λ ws. u ∷ ws) rest) c)) b)) a
    ≡ ranged (option_and_then (λ x. option_and_then (λ y. option_map (λ z. (x, y, z)) c) b) a) rest
joined None b c rest = refl
joined (Some x) None c rest = refl
joined (Some x) (Some y) None rest = refl
joined (Some x) (Some y) (Some z) None = refl
joined (Some x) (Some y) (Some z) (Some ws) = refl

pub values_range : (locals : Locals) (lo hi grain : Expr) (args : List Expr) → values locals (lo ∷ hi ∷ grain ∷ args) ≡ ranged (range_words locals lo hi grain) (values locals args)
values_range locals lo hi grain args = joined (value locals lo) (value locals hi) (value locals grain) (values locals args)

pub ruleset ranges = (values_range)
