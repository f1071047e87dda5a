-- What counts as work that is left under a scope: a task or an index.
use Rattle.std.proofs.Common.{◌≡◌, ◌≢◌, ℕ, zero, suc, ◌+◌, ◌==◌, List, [], ◌∷◌, slice_get, Bool, true, false, not, ◌&&◌, ◌||◌, ◌⊎◌, inl, inr, Some, refl, sym, ap, ◌∙◌, arith, add-zero}
use Rattle.std.specs.List.{list_any}
use Rattle.std.proofs.lemmas.Bool.{eqb-true, eq-eqb}
use Rattle.std.specs.FinMap as fin
use Rattle.gr_lang.specs.declared.action.TaskId.{TaskId}
use Rattle.gr_lang.specs.States.{Mode, going, at_loop, ended, trapped, Task, Scope, State, has_ended, is_under, is_in, range_left, ranges_left, left}
use Rattle.gr_valid.specs.Work.{works_in, has_task}
use Rattle.gr_valid.proofs.Maps.{Found, any_task, found_any}

-- ---- tests

pub and_both : (x y : Bool) → (x && y) ≡ true → (x ≡ true) × (y ≡ true)
and_both true y h = (refl, h)
and_both false y h = cc

pub or_one : (x y : Bool) → (x || y) ≡ true → (x ≡ true) ⊎ (y ≡ true)
or_one true y h = inl refl
or_one false y h = inr h

pub or_first : (x y : Bool) → x ≡ true → (x || y) ≡ true
or_first x y h = rw h refl

pub or_second : (x y : Bool) → y ≡ true → (x || y) ≡ true
or_second true y h = refl
or_second false y h = h

pub same_truth : (x y : Bool) → (x ≡ true → y ≡ true) → (y ≡ true → x ≡ true) → x ≡ y
same_truth true y f g = sym (f refl)
same_truth false true f g = g refl
same_truth false false f g = refl

pub not_ended : (m : Mode) → not (has_ended m) ≡ true → m ≢ ended
not_ended ended h = cc
not_ended going h = λ e. cc
not_ended at_loop h = λ e. cc
not_ended trapped h = λ e. cc

pub ended_not : (m : Mode) → m ≢ ended → not (has_ended m) ≡ true
ended_not ended h = absurd (h refl)
ended_not _ h = refl

-- ---- a scope is under itself

pub under_self : (d : ℕ) (scopes : List Scope) (s : ℕ) → is_under d scopes s s ≡ true
under_self zero scopes s = eq-eqb s s refl
under_self (suc d) scopes s = or_first _ _ (eq-eqb s s refl)

-- ---- tasks

-- A task that stands in the scope and hasn't ended.
pub record Worker (S : State) (s : ℕ) : Type 0 where
  pub id : TaskId
  pub task : Task
  pub there : fin.get S.tasks id ≡ Some task
  pub works : task.mode ≢ ended
  pub scope : task.scope ≡ s

works_both : (m : Mode) (b : Bool) → m ≢ ended → b ≡ true → (not (has_ended m) && b) ≡ true
works_both m b h k = rw (ended_not m h) k

pub worker_has : (S : State) (s : ℕ) → Worker S s → has_task S s ≡ true
worker_has S s w = any_task S.tasks (works_in s) w.id w.task w.there (works_both w.task.mode (w.task.scope == s) w.works (eq-eqb w.task.scope s w.scope))

pub has_worker : (S : State) (s : ℕ) → has_task S s ≡ true → Worker S s
has_worker S s h =
    let f : Found S.tasks (works_in s) = found_any S.tasks (works_in s) h in
    let k : (not (has_ended f.task.mode) ≡ true) × ((f.task.scope == s) ≡ true) = and_both _ _ f.passes in
    record { id = f.id; task = f.task; there = f.there; works = not_ended f.task.mode k.0; scope = eqb-true f.task.scope s k.1 }

-- ---- ranges

-- A range under s of which an index hasn't begun, among these scopes, of which the first has number n.
pub record RangeIn (S : State) (s n : ℕ) (xs : List Scope) : Type 0 where
  pub at : ℕ
  pub scope : Scope
  pub there : slice_get xs at ≡ Some scope
  pub under : is_in S s (n + at) ≡ true
  pub some : range_left scope.range ≡ true

later : (n k : ℕ) → (n + 1) + k ≡ n + suc k
later n k = omega arith

pub range_in : (S : State) (s n : ℕ) (xs : List Scope) → ranges_left S s n xs ≡ true → RangeIn S s n xs
range_in S s n [] h = cc
range_in S s n (x ∷ xs) h = by (or_one _ _ h) (range_in S s (n + 1) xs)
  where
    by : ((is_in S s n && range_left x.range) ≡ true) ⊎ (ranges_left S s (n + 1) xs ≡ true) → (ranges_left S s (n + 1) xs ≡ true → RangeIn S s (n + 1) xs) → RangeIn S s n (x ∷ xs)
    by (inl e) f =
        let k : (is_in S s n ≡ true) × (range_left x.range ≡ true) = and_both _ _ e in
        record { at = 0; scope = x; there = refl; under = ap (is_in S s) (add-zero n) ∙ k.0; some = k.1 }
    by (inr e) f =
        let k : RangeIn S s (n + 1) xs = f e in
        record { at = suc k.at; scope = k.scope; there = k.there; under = ap (is_in S s) (sym (later n k.at)) ∙ k.under; some = k.some }

pub range_counts : (S : State) (s n : ℕ) (xs : List Scope) (k : ℕ) (x : Scope) → slice_get xs k ≡ Some x → is_in S s (n + k) ≡ true → range_left x.range ≡ true → ranges_left S s n xs ≡ true
range_counts S s n [] k x h u r = cc
range_counts S s n (y ∷ xs) zero x h u r =
    let e : y ≡ x = cc in
    or_first (is_in S s n && range_left y.range) (ranges_left S s (n + 1) xs) (rw (sym (ap (is_in S s) (add-zero n)) ∙ u) (ap (λ (z : Scope). range_left z.range) e ∙ r))
range_counts S s n (y ∷ xs) (suc k) x h u r = or_second (is_in S s n && range_left y.range) _ (range_counts S s (n + 1) xs k x h (ap (is_in S s) (later n k) ∙ u) r)

-- ---- what is left

pub worker_left : (S : State) (s : ℕ) → Worker S s → left S s ≡ true
unfolding left
worker_left S s w =
    let under : is_in S s w.task.scope ≡ true = ap (is_in S s) w.scope ∙ under_self _ S.scopes s in
    or_first _ _ (any_task S.tasks (λ t. not (has_ended t.mode) && is_in S s t.scope) w.id w.task w.there (works_both w.task.mode (is_in S s w.task.scope) w.works under))

pub index_left : (S : State) (s : ℕ) (x : Scope) → slice_get S.scopes s ≡ Some x → range_left x.range ≡ true → left S s ≡ true
unfolding left
index_left S s x h r = or_second _ _ (range_counts S s 0 S.scopes s x h (ap (is_in S s) (zero_add s) ∙ under_self _ S.scopes s) r)
  where
    zero_add : (n : ℕ) → 0 + n ≡ n
    zero_add n = omega arith

pub record TaskIn (S : State) (s : ℕ) : Type 0 where
  pub id : TaskId
  pub task : Task
  pub there : fin.get S.tasks id ≡ Some task
  pub works : task.mode ≢ ended
  pub under : is_in S s task.scope ≡ true

task_in : (S : State) (s : ℕ) → list_any (λ t. not (has_ended t.mode) && is_in S s t.scope) (fin.values S.tasks) ≡ true → TaskIn S s
task_in S s h =
    let f : Found S.tasks (λ t. not (has_ended t.mode) && is_in S s t.scope) = found_any S.tasks _ h in
    let k : (not (has_ended f.task.mode) ≡ true) × (is_in S s f.task.scope ≡ true) = and_both _ _ f.passes in
    record { id = f.id; task = f.task; there = f.there; works = not_ended f.task.mode k.0; under = k.1 }

-- What is left is a task or an index.
pub left_is : (S : State) (s : ℕ) → left S s ≡ true → TaskIn S s ⊎ RangeIn S s 0 S.scopes
unfolding left
left_is S s h = by (or_one _ _ h)
  where
    by : (list_any (λ t. not (has_ended t.mode) && is_in S s t.scope) (fin.values S.tasks) ≡ true) ⊎ (ranges_left S s 0 S.scopes ≡ true) → TaskIn S s ⊎ RangeIn S s 0 S.scopes
    by (inl e) = inl (task_in S s e)
    by (inr e) = inr (range_in S s 0 S.scopes e)
