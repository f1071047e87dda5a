-- The scopes of a state: opened scopes keep their owner and their parent while others are opened and indices begin.
use Rattle.std.proofs.Common.{◌≡◌, ◌≢◌, ℕ, zero, suc, ◌<◌, ◌==◌, List, [], ◌∷◌, ◌++◌, length, slice_get, slice_set, Bool, true, false, ◌||◌, ◌⊎◌, inl, inr, Some, All, refl, sym, ap, ◌∙◌, subst}
use Rattle.std.specs.List.{list_any, AllByRecursion}
use Rattle.std.proofs.lemmas.Bool.{eqb-true, eq-eqb}
use Rattle.std.proofs.lemmas.Bool.Decides.{eqb_tells}
use Rattle.std.proofs.lemmas.List.Elements.{recursion_from_All, All-from_recursion}
use Rattle.std.proofs.lemmas.Option.{slice_get_within}
use Rattle.gr_syntax.specs.declared.syntax.Program.{Program}
use Rattle.gr_lang.specs.declared.action.TaskId.{TaskId}
use Rattle.gr_lang.specs.States.{Task, Scope}
use Rattle.gr_valid.specs.Valid.{IsOpened, AreOpened, IsValidTask}

-- ---- numbers in a list

abbrev pub holds : List ℕ → ℕ → Bool
holds ss r = list_any (λ k. k == r) ss

pub number_split : (j k : ℕ) → (j ≡ k) ⊎ (j ≢ k)
number_split j k = by (eqb_tells j k)
  where
    by : (((j == k) ≡ true) × (j ≡ k)) ⊎ (((j == k) ≡ false) × (j ≢ k)) → (j ≡ k) ⊎ (j ≢ k)
    by (inl h) = inl h.1
    by (inr h) = inr h.1

-- A number of a list is its first or one behind.
pub held_first : (k r : ℕ) (ss : List ℕ) → holds (k ∷ ss) r ≡ true → (k ≡ r) ⊎ (holds ss r ≡ true)
held_first k r ss h = by (k == r) refl h
  where
    by : (b : Bool) → (k == r) ≡ b → (b || holds ss r) ≡ true → (k ≡ r) ⊎ (holds ss r ≡ true)
    by true e h = inl (eqb-true k r e)
    by false e h = inr h

pub holds_first : (r : ℕ) (ss : List ℕ) → holds (r ∷ ss) r ≡ true
holds_first r ss = ap (λ b. b || holds ss r) (eq-eqb r r refl)

pub holds_later : (k r : ℕ) (ss : List ℕ) → holds ss r ≡ true → holds (k ∷ ss) r ≡ true
holds_later k r ss h = ap (λ b. (k == r) || b) h ∙ or_true (k == r)
  where
    or_true : (b : Bool) → (b || true) ≡ true
    or_true true = refl
    or_true false = refl

all_below : (s : ℕ) (ss : List ℕ) (r : ℕ) → AllByRecursion (λ k. k < s) ss → holds ss r ≡ true → r < s
all_below s [] r h e = cc
all_below s (k ∷ ss) r h e = by (held_first k r ss e) (all_below s ss r h.1)
  where
    by : (k ≡ r) ⊎ (holds ss r ≡ true) → (holds ss r ≡ true → r < s) → r < s
    by (inl e) f = subst (λ x. x < s) e h.0
    by (inr e) f = f e

-- What stands below s is less than s.
pub below_is_less : (s : ℕ) (ss : List ℕ) (r : ℕ) → All (λ k. k < s) ss → holds ss r ≡ true → r < s
below_is_less s ss r h e = all_below s ss r (recursion_from_All (λ k. k < s) ss h) e

-- ---- scopes by their numbers

module _ {X : Type 0} where
  pub get_append : (xs ys : List X) (k : ℕ) (x : X) → slice_get xs k ≡ Some x → slice_get (xs ++ ys) k ≡ Some x
  get_append [] ys k x h = cc
  get_append (y ∷ xs) ys zero x h = h
  get_append (y ∷ xs) ys (suc k) x h = get_append xs ys k x h

  pub get_last : (xs : List X) (y : X) → slice_get (xs ++ y ∷ []) (length xs) ≡ Some y
  get_last [] y = refl
  get_last (x ∷ xs) y = get_last xs y

  -- What is found after one was appended: that one, or what stood there before.
  pub found_append : (xs : List X) (y : X) (k : ℕ) (x : X) → slice_get (xs ++ y ∷ []) k ≡ Some x → ((k ≡ length xs) × (y ≡ x)) ⊎ (slice_get xs k ≡ Some x)
  found_append [] y zero x h = let e : y ≡ x = cc in inl (refl, e)
  found_append [] y (suc k) x h = cc
  found_append (z ∷ xs) y zero x h = inr h
  found_append (z ∷ xs) y (suc k) x h = by (found_append xs y k x h)
    where
      by : ((k ≡ length xs) × (y ≡ x)) ⊎ (slice_get xs k ≡ Some x) → ((suc k ≡ length (z ∷ xs)) × (y ≡ x)) ⊎ (slice_get xs k ≡ Some x)
      by (inl e) = inl (ap suc e.0, e.1)
      by (inr e) = inr e

  pub get_set : (xs : List X) (k : ℕ) (x y : X) → slice_get xs k ≡ Some x → slice_get (slice_set xs k y) k ≡ Some y
  get_set [] k x y h = cc
  get_set (z ∷ xs) zero x y h = refl
  get_set (z ∷ xs) (suc k) x y h = get_set xs k x y h

  pub get_unset : (xs : List X) (k j : ℕ) (y : X) → j ≢ k → slice_get (slice_set xs k y) j ≡ slice_get xs j
  get_unset [] k j y h = refl
  get_unset (z ∷ xs) zero zero y h = absurd (h refl)
  get_unset (z ∷ xs) zero (suc j) y h = refl
  get_unset (z ∷ xs) (suc k) zero y h = refl
  get_unset (z ∷ xs) (suc k) (suc j) y h = get_unset xs k j y (λ e. h (ap suc e))

-- ---- scopes that keep their owner and their parent

pub record Kept (ys : List Scope) (k : ℕ) (x : Scope) : Type 0 where
  pub scope : Scope
  pub there : slice_get ys k ≡ Some scope
  pub owner : scope.owner ≡ x.owner
  pub parent : scope.parent ≡ x.parent

-- Each scope is there still, with its owner and its parent.
abbrev pub Keep : List Scope → List Scope → Type 0
Keep xs ys = (k : ℕ) (x : Scope) → slice_get xs k ≡ Some x → Kept ys k x

pub keep_append : (xs ys : List Scope) → Keep xs (xs ++ ys)
keep_append xs ys k x h = record { scope = x; there = get_append xs ys k x h; owner = refl; parent = refl }

pub keep_set : (xs : List Scope) (k : ℕ) (x y : Scope) → slice_get xs k ≡ Some x → y.owner ≡ x.owner → y.parent ≡ x.parent → Keep xs (slice_set xs k y)
keep_set xs k x y h o q j z e = by (number_split j k)
  where
    by : (j ≡ k) ⊎ (j ≢ k) → Kept (slice_set xs k y) j z
    by (inl s) =
        let both : Some x ≡ Some z = sym h ∙ ap (slice_get xs) (sym s) ∙ e in
        let same : x ≡ z = cc in
        record {
          scope = y;
          there = ap (slice_get (slice_set xs k y)) s ∙ get_set xs k x y h;
          owner = o ∙ ap (λ (v : Scope). v.owner) same;
          parent = q ∙ ap (λ (v : Scope). v.parent) same;
        }
    by (inr n) = record { scope = z; there = get_unset xs k j y n ∙ e; owner = refl; parent = refl }

pub one_kept : (xs ys : List Scope) (id : TaskId) (own s : ℕ) (below : List ℕ) → Keep xs ys → IsOpened xs id own s below → IsOpened ys id own s below
one_kept xs ys id own s below k h =
    let at : Kept ys s h.scope = k s h.scope h.there in
    record { scope = at.scope; there = at.there; owner = at.owner ∙ h.owner; parent = at.parent ∙ h.parent; newer = h.newer }

pub opened_kept : (xs ys : List Scope) (id : TaskId) (own : ℕ) (ss : List ℕ) → Keep xs ys → AreOpened xs id own ss → AreOpened ys id own ss
opened_kept xs ys id own [] k h = tt
opened_kept xs ys id own (s ∷ ss) k h = (one_kept xs ys id own s ss k h.0, opened_kept xs ys id own ss k h.1)

pub task_kept : (p : Program) (xs ys : List Scope) (id : TaskId) (t : Task) → Keep xs ys → IsValidTask p xs id t → IsValidTask p ys id t
task_kept p xs ys id t k h = record { stands = h.stands; loops = h.loops; opened = opened_kept xs ys id t.scope t.opened k h.opened; level = h.level; over = h.over }

-- ---- one of the scopes that a task has opened

-- It is opened over those below it, which the task has opened too.
pub record IsOneOf (xs : List Scope) (id : TaskId) (own : ℕ) (ss : List ℕ) (r : ℕ) : Type 0 where
  pub below : List ℕ
  pub opened : IsOpened xs id own r below
  pub inside : (q : ℕ) → holds below q ≡ true → holds ss q ≡ true

pub one_of : (xs : List Scope) (id : TaskId) (own : ℕ) (ss : List ℕ) (r : ℕ) → AreOpened xs id own ss → holds ss r ≡ true → IsOneOf xs id own ss r
one_of xs id own [] r h e = cc
one_of xs id own (s ∷ ss) r h e = by (held_first s r ss e) (one_of xs id own ss r h.1)
  where
    by : (s ≡ r) ⊎ (holds ss r ≡ true) → (holds ss r ≡ true → IsOneOf xs id own ss r) → IsOneOf xs id own (s ∷ ss) r
    by (inl e) f = record { below = ss; opened = subst (λ x. IsOpened xs id own x ss) e h.0; inside = λ q k. holds_later s q ss k }
    by (inr e) f = let at : IsOneOf xs id own ss r = f e in record { below = at.below; opened = at.opened; inside = λ q k. holds_later s q ss (at.inside q k) }

-- The scopes that a task has opened are older than one that is opened next.
pub are_older : (xs : List Scope) (id : TaskId) (own : ℕ) (ss : List ℕ) → AreOpened xs id own ss → All (λ k. k < length xs) ss
are_older xs id own ss h = All-from_recursion (λ k. k < length xs) ss (each ss h)
  where
    each : (ss : List ℕ) → AreOpened xs id own ss → AllByRecursion (λ k. k < length xs) ss
    each [] h = tt
    each (s ∷ ss) h = (slice_get_within xs s h.0.scope h.0.there, each ss h.1)
