-- Writes to functions of numbers, and to lists as such functions.
use Rattle.std.proofs.Common.{◌≡◌, ◌≢◌, ℕ, ◌<◌, List, length, get_or, set, ap, ◌∙◌, sym, refl, inl, inr, eq-eqb, ne_eqb, if◌then◌else◌, slice_index_or, slice_set}
use mathlib.Core.Path.{fun_ext}
use Rattle.std.proofs.lemmas.Bool.{cases_eq}
use Rattle.std.proofs.lemmas.List.{get_or-set_same, get_or-set_other, get_or_read}
use Rattle.gr_view.specs.Places.{put, at_place}

pub put_at : {X : Type 0} (f : ℕ → X) (k : ℕ) (x : X) (i : ℕ) → i ≡ k → put f k x i ≡ x
unfolding put
put_at f k x i e = ap (λ b. if b then x else f i) (eq-eqb i k e)

pub put_other : {X : Type 0} (f : ℕ → X) (k : ℕ) (x : X) (i : ℕ) → i ≢ k → put f k x i ≡ f i
unfolding put
put_other f k x i e = ap (λ b. if b then x else f i) (ne_eqb i k e)

pub put_by : {X : Type 0} (f g : ℕ → X) (k : ℕ) (x : X) → g k ≡ x → ((q : ℕ) → q ≢ k → g q ≡ f q) → g ≡ put f k x
put_by f g k x e h = fun_ext (λ i. elim (cases_eq i k) [
  | inl q ↦ ap g q ∙ e ∙ sym (put_at f k x i q)
  | inr q ↦ h i q ∙ sym (put_other f k x i q)
])

pub put_put : {X : Type 0} (f : ℕ → X) (k : ℕ) (x y : X) → put (put f k x) k y ≡ put f k y
put_put f k x y = put_by f (put (put f k x) k y) k y (put_at (put f k x) k y k refl) (λ q n. put_other (put f k x) k y q n ∙ put_other f k x q n)

list_put : {X : Type 0} (xs : List X) (k : ℕ) (x d : X) → k < length xs → (λ i. get_or (set xs k x) i d) ≡ put (λ i. get_or xs i d) k x
list_put xs k x d l = put_by (λ i. get_or xs i d) (λ i. get_or (set xs k x) i d) k x (get_or-set_same xs k x d l) (λ i q. get_or-set_other xs k i x d q)

pub place_put : {X : Type 0} (d : X) (xs : List X) (k : ℕ) (x : X) → k < length xs → at_place d (slice_set xs k x) ≡ put (at_place d xs) k x
unfolding at_place
place_put d xs k x l = list_put xs k x d l

pub place_is : {X : Type 0} (d : X) (xs : List X) (k : ℕ) → at_place d xs k ≡ slice_index_or xs k d
unfolding at_place
place_is d xs k = refl

pub place_read : {X : Type 0} (d x : X) (xs : List X) (k : ℕ) → k < length xs → x ≡ slice_index_or xs k x → at_place d xs k ≡ x
unfolding at_place
place_read d x xs k l e = sym (get_or_read xs k x l e d)

-- Reads and writes of a list as a function of its places.
pub ruleset at_lists = (place_put, place_is, place_read)
