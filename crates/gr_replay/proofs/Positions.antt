-- The first place in a list of texts at which a test passes, from the first text on.
use Rattle.std.proofs.Common.{◌≡◌, ℕ, ◌+◌, Bool, true, false, cond, List, [], ◌∷◌, Some, refl, sym, ap, ◌∙◌}
use Rattle.std.specs.Prelude.{position}
use Rattle.std.specs.List.{position_from}
use Rattle.std.specs.Option.{option_map}
use Rattle.std.proofs.lemmas.Iterator.Adapters.{position_from-zero}

position_later : (p : List ℕ → Bool) (k : ℕ) (xs : List (List ℕ)) → position_from p (k + 1) xs ≡ option_map (λ j. j + 1) (position_from p k xs)
position_later p k [] = refl
position_later p k (x ∷ xs) = by (p x) (position_later p (k + 1) xs)
  where
    by : (b : Bool) → position_from p (k + 1 + 1) xs ≡ option_map (λ j. j + 1) (position_from p (k + 1) xs)
        → cond b (Some (k + 1)) (position_from p (k + 1 + 1) xs) ≡ option_map (λ j. j + 1) (cond b (Some k) (position_from p (k + 1) xs))
    by true others = refl
    by false others = others

-- The first passes.
pub position_hit : (p : List ℕ → Bool) (x : List ℕ) (xs : List (List ℕ)) → p x ≡ true → position p (x ∷ xs) ≡ Some 0
position_hit p x xs h = position_from-zero p (x ∷ xs) ∙ ap (λ (b : Bool). cond b (Some 0) (position_from p 1 xs)) h

-- The first doesn't pass.
pub position_miss : (p : List ℕ → Bool) (x : List ℕ) (xs : List (List ℕ)) → p x ≡ false → position p (x ∷ xs) ≡ option_map (λ j. j + 1) (position p xs)
position_miss p x xs h =
    position_from-zero p (x ∷ xs)
    ∙ ap (λ (b : Bool). cond b (Some 0) (position_from p 1 xs)) h
    ∙ position_later p 0 xs
    ∙ ap (option_map (λ j. j + 1)) (sym (position_from-zero p xs))
