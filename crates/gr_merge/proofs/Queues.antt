-- Lists of packets by cores, and options of what comes next.
use Rattle.std.proofs.Common.{◌≡◌, ℕ, ◌⊎◌, inl, inr, List, [], ◌∷◌, ◌++◌, Option, Some, None, refl, sym, ap, ◌∙◌, subst}
use Rattle.std.proofs.lemmas.List.{append_assoc, append-nil}
use Rattle.std.proofs.lemmas.Bool.{cases_eq}
use Rattle.std.specs.Option.{option_map, option_and_then}
use mathlib.Core.Path.{fun_ext}
use Rattle.gr_view.specs.Places.{put}
use Rattle.gr_view.proofs.Puts.{put_at, put_other}
use Rattle.gr_merge.specs.Machines.{with_first, with_last}
use Rattle.gr_merge.specs.GlobalRuns.{put_pair}
use Rattle.gr_merge.specs.Laws.{joined}

pub put_self : {X : Type 0} (f : ℕ → X) (i k : ℕ) → put f i (f i) k ≡ f k
put_self f i k = elim (cases_eq k i) [
  | inl e ↦ put_at f i (f i) k e ∙ ap f (sym e)
  | inr n ↦ put_other f i (f i) k n
]

pub put_undo : {X : Type 0} (f : ℕ → X) (i : ℕ) (x : X) → put (put f i x) i (f i) ≡ f
put_undo f i x = fun_ext (λ k. elim (cases_eq k i) [
  | inl e ↦ put_at (put f i x) i (f i) k e ∙ ap f (sym e)
  | inr n ↦ put_other (put f i x) i (f i) k n ∙ put_other f i x k n
])

pub put_whole : {X : Type 0} (f : ℕ → X) (i : ℕ) (x y : X) → f i ≡ y → put (put f i x) i y ≡ f
put_whole f i x y e = ap (put (put f i x) i) (sym e) ∙ put_undo f i x

pub pair_split : (a o b i : ℕ) → ((a ≡ o) × (b ≡ i)) ⊎ (a ≡ o → b ≡ i → ⊥)
pair_split a o b i = elim (cases_eq a o) [
  | inl v ↦ elim (cases_eq b i) [ inl w ↦ inl (v, w) | inr w ↦ inr (λ _ q. w q) ]
  | inr v ↦ inr (λ p _. v p)
]

pub pair_same : {X : Type 0} (f : ℕ → ℕ → X) (a b : ℕ) (x : X) → put_pair f a b x a b ≡ x
pair_same f a b x = ap (λ g. g b) (put_at f a (put (f a) b x) a refl) ∙ put_at (f a) b x b refl

pub pair_other : {X : Type 0} (f : ℕ → ℕ → X) (a b : ℕ) (x : X) (i j : ℕ) → (i ≡ a → j ≡ b → ⊥) → put_pair f a b x i j ≡ f i j
pair_other f a b x i j n = elim (cases_eq i a) [
  | inl e ↦ ap (λ g. g j) (put_at f a (put (f a) b x) i e) ∙ put_other (f a) b x j (n e) ∙ ap (λ k. f k j) (sym e)
  | inr m ↦ ap (λ g. g j) (put_other f a (put (f a) b x) i m)
]

pub joined_nothing : {X : Type 0} (f g : ℕ → List X) → ((k : ℕ) → g k ≡ []) → joined f g ≡ f
joined_nothing f g h = fun_ext (λ k. ap (λ xs. f k ++ xs) (h k) ∙ append-nil (f k))

pub nothing_joined : {X : Type 0} (f g : ℕ → List X) → ((k : ℕ) → f k ≡ []) → joined f g ≡ g
nothing_joined f g h = fun_ext (λ k. ap (λ xs. xs ++ g k) (h k))

pub put_joined : {X : Type 0} (f g : ℕ → List X) (i : ℕ) (xs : List X) → put (joined f g) i (xs ++ g i) ≡ joined (put f i xs) g
put_joined f g i xs = fun_ext (λ k. elim (cases_eq k i) [
  | inl e ↦ put_at (joined f g) i (xs ++ g i) k e ∙ ap (λ j. xs ++ g j) (sym e) ∙ sym (ap (λ ys. ys ++ g k) (put_at f i xs k e))
  | inr n ↦ put_other (joined f g) i (xs ++ g i) k n ∙ sym (ap (λ ys. ys ++ g k) (put_other f i xs k n))
])

pub joined_last : {X : Type 0} (f g : ℕ → List X) (i : ℕ) (x : X) → joined (with_last f i x) g ≡ joined f (put g i (x ∷ g i))
joined_last f g i x = fun_ext (λ k. elim (cases_eq k i) [
  | inl e ↦ subst (λ k. joined (with_last f i x) g k ≡ joined f (put g i (x ∷ g i)) k) (sym e)
      (ap (λ ys. ys ++ g i) (put_at f i (f i ++ x ∷ []) i refl) ∙ append_assoc (f i) (x ∷ []) (g i)
      ∙ sym (ap (λ ys. f i ++ ys) (put_at g i (x ∷ g i) i refl)))
  | inr n ↦ ap (λ ys. ys ++ g k) (put_other f i (f i ++ x ∷ []) k n) ∙ sym (ap (λ ys. f k ++ ys) (put_other g i (x ∷ g i) k n))
])

pub joined_next : {X : Type 0} (f g : ℕ → List X) (i : ℕ) (x : X) (all : ℕ → List X) → joined (with_last f i x) g ≡ all → joined f (put g i (x ∷ g i)) ≡ all
joined_next f g i x all h = sym (joined_last f g i x) ∙ h

pub joined_one : {X : Type 0} (f : ℕ → List X) (i : ℕ) (x : X) → joined f (put (λ k. []) i (x ∷ [])) ≡ with_last f i x
joined_one f i x = sym (joined_last f (λ k. []) i x) ∙ joined_nothing (with_last f i x) (λ k. []) (λ k. refl)

-- What has come to something has come through each of its steps.

pub then_map : {X Y Z : Type 0} (f : Y → Option Z) (g : X → Y) (o : Option X) (z : Z) → option_and_then f (option_map g o) ≡ Some z
    → (x : X) × (o ≡ Some x) × (f (g x) ≡ Some z)
then_map f g None z h = absurd (cc)
then_map f g (Some x) z h = (x, refl, h)

pub then_first : {X Y Z : Type 0} (f : Y → Option Z) (xs : List X) (g : X → List X → Option Y) (z : Z) → option_and_then f (with_first xs g) ≡ Some z
    → (x : X) × (rest : List X) × (xs ≡ x ∷ rest) × (option_and_then f (g x rest) ≡ Some z)
then_first f [] g z h = absurd (cc)
then_first f (x ∷ xs) g z h = (x, xs, refl, h)
