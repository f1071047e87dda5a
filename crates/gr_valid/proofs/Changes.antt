-- Changes that keep a state valid: a task goes on or closes a scope, a task is new, a scope is opened, an index begins.
use Rattle.std.proofs.Common.{◌≡◌, ◌≢◌, ℕ, List, [], ◌∷◌, ◌++◌, length, slice_get, true, false, ◌⊎◌, inl, inr, Option, Some, None, refl, sym, ap, ◌∙◌, subst}
use Rattle.std.specs.Ordering.{eq_by_cmp}
use Rattle.std.specs.FinMap.{insert, get}
use Rattle.gr_syntax.specs.declared.syntax.Program.{Program}
use Rattle.gr_lang.specs.declared.action.TaskId.{TaskId}
use Rattle.gr_lang.specs.States.{ended, Task, Range, Scope, State, id_cmp, root, range_left}
use Rattle.gr_lang.specs.Steps.{set_task, new_scope, open_scope}
use Rattle.gr_valid.specs.Valid.{IsValid, IsValidTask, IsOpen}
use Rattle.gr_valid.proofs.Maps.{IsPut, id_split, get_same, get_other, found_put, found_still}
use Rattle.gr_valid.proofs.Counts.{Worker}
use Rattle.gr_valid.proofs.Scopes.{holds, holds_first, holds_later, get_append, found_append, Keep, keep_append, task_kept}

-- ---- a scope stays open

-- The tasks are the same.
pub open_same : (S T : State) → T.tasks ≡ S.tasks → (r : ℕ) → IsOpen S r → IsOpen T r
open_same S T e r o = record { id = o.id; task = o.task; there = ap (λ m. get m o.id) e ∙ o.there; opened = o.opened }

-- A task is put in the place of one that has opened no scope but its own.
pub open_set : (S T : State) (id : TaskId) (t u : Task) → get S.tasks id ≡ Some t → T.tasks ≡ insert S.tasks id u
    → (r : ℕ) → (holds t.opened r ≡ true → holds u.opened r ≡ true) → IsOpen S r → IsOpen T r
open_set S T id t u at e r h o = by (id_split o.id id)
  where
    by : (o.id ≡ id) ⊎ (eq_by_cmp id_cmp o.id id ≡ false) → IsOpen T r
    by (inl same) =
        let both : Some t ≡ Some o.task = sym at ∙ ap (get S.tasks) (sym same) ∙ o.there in
        let task : t ≡ o.task = cc in
        record { id = id; task = u; there = ap (λ m. get m id) e ∙ get_same S.tasks id u; opened = h (ap (λ (x : Task). holds x.opened r) task ∙ o.opened) }
    by (inr other) = record { id = o.id; task = o.task; there = ap (λ m. get m o.id) e ∙ get_other S.tasks id o.id u other ∙ o.there; opened = o.opened }

-- A task is new.
pub open_new : (S T : State) (id : TaskId) (u : Task) → get S.tasks id ≡ None → T.tasks ≡ insert S.tasks id u → (r : ℕ) → IsOpen S r → IsOpen T r
open_new S T id u new e r o = record { id = o.id; task = o.task; there = ap (λ m. get m o.id) e ∙ found_still S.tasks id o.id u o.task new o.there; opened = o.opened }

either : (A B : Type 0) (n : ℕ) → (A → B) → (n ≡ 0) ⊎ A → (n ≡ 0) ⊎ B
either A B n f (inl z) = inl z
either A B n f (inr x) = inr (f x)

-- ---- the same tasks and scopes

pub same_valid : (p : Program) (S T : State) → T.tasks ≡ S.tasks → T.scopes ≡ S.scopes → IsValid p S → IsValid p T
same_valid p S T e k h = record {
  root = ap (λ xs. slice_get xs 0) k ∙ h.root;
  tasks = λ q v x. subst (λ xs. IsValidTask p xs q v) (sym k) (h.tasks q v (ap (λ m. get m q) (sym e) ∙ x));
  held = λ q v x n. either (IsOpen S v.scope) (IsOpen T v.scope) v.scope (open_same S T e v.scope) (h.held q v (ap (λ m. get m q) (sym e) ∙ x) n);
  ranges = λ r x y l. open_same S T e r (h.ranges r x (ap (λ xs. slice_get xs r) (sym k) ∙ y) l);
}

-- ---- a task in the place of another

-- A loop at scope r of which an index hasn't begun.
pub record LoopsAt (S : State) (r : ℕ) : Type 0 where
  pub scope : Scope
  pub there : slice_get S.scopes r ≡ Some scope
  pub some : range_left scope.range ≡ true

-- Each scope in which a task or loop isn't finished stays open.
abbrev pub Closes : State → List ℕ → List ℕ → Type 0
Closes S before after = (r : ℕ) → Worker S r ⊎ LoopsAt S r → holds before r ≡ true → holds after r ≡ true

pub set_valid : (p : Program) (S : State) (id : TaskId) (t u : Task) → IsValid p S → get S.tasks id ≡ Some t
    → u.scope ≡ t.scope → (u.mode ≢ ended → t.mode ≢ ended) → Closes S t.opened u.opened → IsValidTask p S.scopes id u → IsValid p (set_task S id u)
set_valid p S id t u h at scope mode closes valid = record {
  root = h.root;
  tasks = λ q v e. tasks q v (found_put S.tasks id q u v e);
  held = λ q v e n. held q v n (found_put S.tasks id q u v e);
  ranges = λ r x e l. open_set S T id t u at refl r (closes r (inr (record { scope = x; there = e; some = l }))) (h.ranges r x e l);
}
  where
    T : State
    T = set_task S id u

    tasks : (q : TaskId) (v : Task) → IsPut S.tasks id u q v → IsValidTask p S.scopes q v
    tasks q v (inl e) = subst (λ x. IsValidTask p S.scopes x v) (sym e.0) (subst (IsValidTask p S.scopes id) e.1 valid)
    tasks q v (inr e) = h.tasks q v e.1

    still : (q : TaskId) (v : Task) → get S.tasks q ≡ Some v → v.mode ≢ ended → (v.scope ≡ 0) ⊎ IsOpen T v.scope
    still q v e n =
        either (IsOpen S v.scope) (IsOpen T v.scope) v.scope
        (open_set S T id t u at refl v.scope (closes v.scope (inl (record { id = q; task = v; there = e; works = n; scope = refl })))) (h.held q v e n)

    held : (q : TaskId) (v : Task) → v.mode ≢ ended → IsPut S.tasks id u q v → (v.scope ≡ 0) ⊎ IsOpen T v.scope
    held q v n (inl e) =
        let k : t.scope ≡ v.scope = sym scope ∙ ap (λ (x : Task). x.scope) e.1 in
        subst (λ r. (r ≡ 0) ⊎ IsOpen T r) k (still id t at (mode (λ m. n (ap (λ (x : Task). x.mode) (sym e.1) ∙ m))))
    held q v n (inr e) = still q v e.1 n

-- ---- a new task

pub new_valid : (p : Program) (S : State) (id : TaskId) (u : Task) → IsValid p S → get S.tasks id ≡ None
    → (u.scope ≡ 0) ⊎ IsOpen S u.scope → IsValidTask p S.scopes id u → IsValid p (set_task S id u)
new_valid p S id u h new scope valid = record {
  root = h.root;
  tasks = λ q v e. tasks q v (found_put S.tasks id q u v e);
  held = λ q v e n. held q v n (found_put S.tasks id q u v e);
  ranges = λ r x e l. open_new S T id u new refl r (h.ranges r x e l);
}
  where
    T : State
    T = set_task S id u

    tasks : (q : TaskId) (v : Task) → IsPut S.tasks id u q v → IsValidTask p S.scopes q v
    tasks q v (inl e) = subst (λ x. IsValidTask p S.scopes x v) (sym e.0) (subst (IsValidTask p S.scopes id) e.1 valid)
    tasks q v (inr e) = h.tasks q v e.1

    held : (q : TaskId) (v : Task) → v.mode ≢ ended → IsPut S.tasks id u q v → (v.scope ≡ 0) ⊎ IsOpen T v.scope
    held q v n (inl e) = subst (λ (x : Task). (x.scope ≡ 0) ⊎ IsOpen T x.scope) e.1 (either (IsOpen S u.scope) (IsOpen T u.scope) u.scope (open_new S T id u new refl u.scope) scope)
    held q v n (inr e) = either (IsOpen S v.scope) (IsOpen T v.scope) v.scope (open_new S T id u new refl v.scope) (h.held q v e.1 n)

-- ---- scopes that keep their owner and their parent

pub scopes_valid : (p : Program) (S : State) (xs : List Scope) → IsValid p S → Keep S.scopes xs → slice_get xs 0 ≡ Some root
    → ((r : ℕ) (x : Scope) → slice_get xs r ≡ Some x → range_left x.range ≡ true → IsOpen S r) → IsValid p (record S { scopes = xs })
scopes_valid p S xs h keep first ranges = record {
  root = first;
  tasks = λ q v e. task_kept p S.scopes xs q v keep (h.tasks q v e);
  held = λ q v e n. either (IsOpen S v.scope) (IsOpen T v.scope) v.scope (open_same S T refl v.scope) (h.held q v e n);
  ranges = λ r x e l. open_same S T refl r (ranges r x e l);
}
  where
    T : State
    T = record S { scopes = xs }

-- ---- a scope that a task opens

pub open_valid : (p : Program) (S : State) (id : TaskId) (t u : Task) (range : Option Range) → IsValid p S → get S.tasks id ≡ Some t
    → u.scope ≡ t.scope → t.mode ≢ ended → IsValidTask p (S.scopes ++ new_scope t id range ∷ []) id (record u { opened = length S.scopes ∷ t.opened })
    → IsValid p (open_scope S id t u range)
open_valid p S id t u range h at scope works valid = record {
  root = get_append S.scopes (new_scope t id range ∷ []) 0 root h.root;
  tasks = λ q v e. tasks q v (found_put S.tasks id q w v e);
  held = λ q v e n. held q v n (found_put S.tasks id q w v e);
  ranges = λ r x e l. ranges r x l (found_append S.scopes (new_scope t id range) r x e);
}
  where
    w : Task
    w = record u { opened = length S.scopes ∷ t.opened }

    T : State
    T = open_scope S id t u range

    stays : (r : ℕ) → IsOpen S r → IsOpen T r
    stays r o = open_set S T id t w at refl r (holds_later (length S.scopes) r t.opened) o

    tasks : (q : TaskId) (v : Task) → IsPut S.tasks id w q v → IsValidTask p (S.scopes ++ new_scope t id range ∷ []) q v
    tasks q v (inl e) = subst (λ x. IsValidTask p (S.scopes ++ new_scope t id range ∷ []) x v) (sym e.0) (subst (IsValidTask p (S.scopes ++ new_scope t id range ∷ []) id) e.1 valid)
    tasks q v (inr e) = task_kept p S.scopes (S.scopes ++ new_scope t id range ∷ []) q v (keep_append S.scopes (new_scope t id range ∷ [])) (h.tasks q v e.1)

    held : (q : TaskId) (v : Task) → v.mode ≢ ended → IsPut S.tasks id w q v → (v.scope ≡ 0) ⊎ IsOpen T v.scope
    held q v n (inl e) =
        subst (λ r. (r ≡ 0) ⊎ IsOpen T r) (sym scope ∙ ap (λ (x : Task). x.scope) e.1) (either (IsOpen S t.scope) (IsOpen T t.scope) t.scope (stays t.scope) (h.held id t at works))
    held q v n (inr e) = either (IsOpen S v.scope) (IsOpen T v.scope) v.scope (stays v.scope) (h.held q v e.1 n)

    ranges : (r : ℕ) (x : Scope) → range_left x.range ≡ true → ((r ≡ length S.scopes) × (new_scope t id range ≡ x)) ⊎ (slice_get S.scopes r ≡ Some x) → IsOpen T r
    ranges r x l (inl e) = record { id = id; task = w; there = get_same S.tasks id w; opened = ap (holds (length S.scopes ∷ t.opened)) e.0 ∙ holds_first (length S.scopes) t.opened }
    ranges r x l (inr e) = stays r (h.ranges r x e l)
