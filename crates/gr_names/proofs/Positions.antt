-- The first place in a list at which a test passes.
use Rattle.std.proofs.Common.{◌≡◌, ℕ, ◌+◌, Bool, true, false, if◌then◌else◌, List, [], ◌∷◌, ◌++◌, length, map, Option, Some, None, refl, sym, ap, ◌∙◌, arith}
use Rattle.std.specs.Prelude.{position}
use Rattle.std.specs.List.{position_from}
use Rattle.std.specs.Option.{option_or}
use Rattle.std.proofs.lemmas.Iterator.Adapters.{position_from-zero}

module _ {X : Type 0} (test : X → Bool) where
  from-push : (start : ℕ) (xs : List X) (x : X) → position_from test start (xs ++ x ∷ []) ≡ option_or (position_from test start xs) (if test x then Some (start + length xs) else None)
  from-push start [] x = ap (λ (place : ℕ). if test x then Some place else None) (omega arith)
  from-push start (y ∷ ys) x = by (test y) (from-push (start + 1) ys x ∙ ap (λ (place : ℕ). option_or (position_from test (start + 1) ys) (if test x then Some place else None)) (omega arith))
    where
      by : (here : Bool) → position_from test (start + 1) (ys ++ x ∷ []) ≡ option_or (position_from test (start + 1) ys) (if test x then Some (start + length (y ∷ ys)) else None)
          → (if here then Some start else position_from test (start + 1) (ys ++ x ∷ [])) ≡ option_or (if here then Some start else position_from test (start + 1) ys) (if test x then Some (start + length (y ∷ ys)) else None)
      by true later = refl
      by false later = later

  -- One more at the end.
  pub position-push : (xs : List X) (x : X) → position test (xs ++ x ∷ []) ≡ option_or (position test xs) (if test x then Some (length xs) else None)
  position-push xs x =
      position_from-zero test (xs ++ x ∷ [])
      ∙ from-push 0 xs x
      ∙ ap (λ (place : ℕ). option_or (position_from test 0 xs) (if test x then Some place else None)) (omega arith)
      ∙ ap (λ (found : Option ℕ). option_or found (if test x then Some (length xs) else None)) (sym (position_from-zero test xs))

module _ {X Y : Type 0} (test : Y → Bool) (f : X → Y) where
  from-map : (start : ℕ) (xs : List X) → position_from test start (map f xs) ≡ position_from (λ x. test (f x)) start xs
  from-map start [] = refl
  from-map start (x ∷ xs) = ap (λ (later : Option ℕ). if test (f x) then Some start else later) (from-map (start + 1) xs)

  -- A place in a list of views.
  pub position-map : (xs : List X) → position test (map f xs) ≡ position (λ x. test (f x)) xs
  position-map xs = position_from-zero test (map f xs) ∙ from-map 0 xs ∙ sym (position_from-zero (λ x. test (f x)) xs)
