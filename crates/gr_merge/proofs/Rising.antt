-- Clocks that don't fall, by recursion on the list.
use Rattle.std.proofs.Common.{◌≡◌, ℕ, zero, suc, ◌<◌, ◌≤◌, Bool, true, false, if◌then◌else◌, List, [], ◌∷◌, length, slice_index_or, arith, le_refl, le_trans, refl}
use Rattle.std.specs.Prelude.{⊤}
use Rattle.std.specs.List.Sorted.{IsNonDecreasingBy}

-- Both cases of a choice.
pub either : {X : Type 0} (P : X → Type 0) (b : Bool) (x y : X) → (b ≡ true → P x) → (b ≡ false → P y) → P (if b then x else y)
either P true x y f g = f refl
either P false x y f g = g refl

abbrev pub Each : {X : Type 0} → (X → Type 0) → List X → Type 0
Each P [] = ⊤
Each P (x ∷ xs) = P x × Each P xs

pub each_of : {X : Type 0} (P Q : X → Type 0) → ((x : X) → P x → Q x) → (xs : List X) → Each P xs → Each Q xs
each_of P Q f [] h = tt
each_of P Q f (x ∷ xs) h = (f x h.0, each_of P Q f xs h.1)

-- None is below this.
abbrev pub NotBelow : {X : Type 0} → (X → ℕ) → ℕ → List X → Type 0
NotBelow n c = Each (λ x. c ≤ n x)

abbrev pub Rises : {X : Type 0} → (X → ℕ) → List X → Type 0
Rises n [] = ⊤
Rises n (x ∷ xs) = NotBelow n (n x) xs × Rises n xs

pub below_less : {X : Type 0} (n : X → ℕ) (c d : ℕ) (xs : List X) → c ≤ d → NotBelow n d xs → NotBelow n c xs
below_less n c d xs h = each_of (λ x. d ≤ n x) (λ x. c ≤ n x) (λ x k. le_trans h k) xs

not_below_from : {X : Type 0} (n : X → ℕ) (c : ℕ) (xs : List X) → ((j : ℕ) (d : X) → j < length xs → c ≤ n (slice_index_or xs j d)) → NotBelow n c xs
not_below_from n c [] h = tt
not_below_from n c (x ∷ xs) h = (h 0 x (omega arith), not_below_from n c xs (λ j d l. h (suc j) d (omega (arith, l))))

not_below_at : {X : Type 0} (n : X → ℕ) (c : ℕ) (xs : List X) → NotBelow n c xs → (j : ℕ) (d : X) → j < length xs → c ≤ n (slice_index_or xs j d)
not_below_at n c [] h j d l = absurd (omega (arith, l))
not_below_at n c (x ∷ xs) h zero d l = h.0
not_below_at n c (x ∷ xs) h (suc j) d l = not_below_at n c xs h.1 j d (omega (arith, l))

pub rises_from : {X : Type 0} (n : X → ℕ) (xs : List X) → IsNonDecreasingBy n xs → Rises n xs
rises_from n [] h = tt
rises_from n (x ∷ xs) h = (
  not_below_from n (n x) xs (λ j d l. h 0 (suc j) d (omega arith) (omega (arith, l))),
  rises_from n xs (λ i j d a b. h (suc i) (suc j) d (omega (arith, a)) (omega (arith, b))),
)

pub rises_to : {X : Type 0} (n : X → ℕ) (xs : List X) → Rises n xs → IsNonDecreasingBy n xs
rises_to n [] h i j d a b = absurd (omega (arith, b))
rises_to n (x ∷ xs) h zero zero d a b = le_refl (n x)
rises_to n (x ∷ xs) h zero (suc j) d a b = not_below_at n (n x) xs h.0 j d (omega (arith, b))
rises_to n (x ∷ xs) h (suc i) zero d a b = absurd (omega (arith, a))
rises_to n (x ∷ xs) h (suc i) (suc j) d a b = rises_to n xs h.1 i j d (omega (arith, a)) (omega (arith, b))
