-- The last element of a list.
use Rattle.std.proofs.Common.{◌≡◌, ◌∙◌, ap, sym, refl, ℕ, ◌+◌, List, [], ◌∷◌, ◌++◌, length, Option, Some, None, arith}
use Rattle.std.specs.List.{last_or}
use Rattle.std.specs.Option.{MatchOption, option_to_list}

after : {X : Type 0} (o : Option X) (xs : List X) (x : X) → last_or o (xs ++ x ∷ []) ≡ Some x
after o [] x = refl
after o (y ∷ xs) x = after (Some y) xs x

none_in : {X : Type 0} (xs : List X) → length xs ≡ 0 → None ≡ last_or None xs
none_in [] h = refl
none_in (x ∷ xs) h = absurd (omega arith)

-- What was taken from the end was last.
pub last_taken : {X : Type 0} (xs ys : List X) (o : Option X) (m n : ℕ) → n ≡ length xs → xs ≡ ys ++ option_to_list o
    → MatchOption o ((n ≡ 0) × (m ≡ 0)) (λ x. m + 1 ≡ n) → o ≡ last_or None xs
last_taken xs ys None m n l e h = none_in xs (sym l ∙ h.0)
last_taken xs ys (Some x) m n l e h = sym (ap (last_or None) e ∙ after None ys x)
