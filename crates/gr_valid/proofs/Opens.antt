-- A finish, a loop and the beginning of an index keep a state valid.
use Rattle.std.proofs.Common.{◌≡◌, ◌≢◌, ℕ, suc, ◌+◌, List, [], ◌∷◌, ◌++◌, length, slice_get, slice_set, true, not, ◌&&◌, nat_lt, nat_le, ◌⊎◌, inl, inr, Option, Some, None, refl, sym, ap, ◌∙◌, subst, arith}
use Rattle.std.specs.FinMap.{get}
use Rattle.std.specs.FinSet as set
use Rattle.gr_syntax.specs.declared.syntax.Program.{Program}
use Rattle.gr_lang.specs.declared.action.Action.{Action}
use Rattle.gr_lang.specs.declared.action.Action.TheVariants as a
use Rattle.gr_lang.specs.declared.action.TaskId.{TaskId}
use Rattle.gr_lang.specs.Effects.{nothing}
use Rattle.gr_lang.specs.Next.{go_on}
use Rattle.gr_lang.specs.States.{going, at_loop, Task, Range, Scope, State, child, range_left}
use Rattle.gr_lang.specs.Steps.{set_task, goes_on, new_scope, open_scope, finish_step, loop_step, begin_in, begin_at, begin_step, is_new as new_id}
use Rattle.gr_valid.specs.Valid.{arrives, IsLoop, IsValid, IsValidTask, IsOpen, IsOpened, AreOpened}
use Rattle.gr_valid.proofs.Scopes.{holds, holds_first, number_split, get_unset, keep_set}
use Rattle.gr_valid.proofs.Counts.{and_both}
use Rattle.gr_valid.proofs.Direct.{root_unowned}
use Rattle.gr_valid.proofs.Changes.{open_same, scopes_valid, new_valid, open_valid}
use Rattle.gr_valid.proofs.Goes.{went, level_at, goes_valid, child_valid, opened_next, waits_valid}
use Rattle.gr_valid.proofs.Inverts.{by_found, by_loop, tells_when, going_works, is_new}

pub finish_valid : (p : Program) (L : ℕ) (S T : State) (id : TaskId) (t : Task) → IsValid p S → get S.tasks id ≡ Some t → t.mode ≡ going
    → (x : Action) → t.action ≡ x → finish_step p L S id t x ≡ Some T → IsValid p T
finish_valid p L S T id t h at m a.Finish x e =
    let v : IsValidTask p S.scopes id t = h.tasks id t at in
    let k : arrives (go_on t.running nothing).todo ≡ suc (arrives t.running.todo) = went p S.scopes id t a.Finish nothing v x (λ n. n) in
    let l : arrives t.running.todo + 0 ≡ length t.opened = level_at p S.scopes id t going v m in
    let xs : List Scope = S.scopes ++ new_scope t id None ∷ [] in
    let u : IsValidTask p xs id (record (goes_on p L t nothing) { opened = length S.scopes ∷ t.opened }) =
    goes_valid p L xs id t nothing (length S.scopes ∷ t.opened) (omega (arith, k, l)) (opened_next S.scopes id t None v.opened) in
    let same : open_scope S id t (goes_on p L t nothing) None ≡ T = cc in
    subst (IsValid p) same (open_valid p S id t (goes_on p L t nothing) None h at refl (going_works t.mode m) u)
finish_valid p L S T id t h at m _ x e = cc

pub loop_valid : (p : Program) (S T : State) (id : TaskId) (t : Task) (lo hi grain target : ℕ) (args : List ℕ) → IsValid p S → get S.tasks id ≡ Some t → t.mode ≡ going
    → (x : Action) → t.action ≡ x → loop_step S id t x lo hi grain target args ≡ Some T → IsValid p T
loop_valid p S T id t lo2 hi2 grain2 target2 args2 h at m (a.Loop lo hi grain target args) x e =
    let range : Option Range = Some (record { lo = lo; hi = hi; target = target; args = args; begun = set.empty }) in
    let k = tells_when _ (open_scope S id t (record t { mode = at_loop }) range) T e in
    let u = waits_valid p S.scopes id t range (h.tasks id t at) m (subst IsLoop (sym x) tt) in
    subst (IsValid p) k.1 (open_valid p S id t (record t { mode = at_loop }) range h at refl (going_works t.mode m) u)
loop_valid p S T id t lo hi grain target args h at m _ x e = cc

-- ---- the beginning of an index

-- A scope that a task has opened isn't the root.
not_root : (p : Program) (S : State) (id : TaskId) (own s : ℕ) (ss : List ℕ) → IsValid p S → IsOpened S.scopes id own s ss → 0 ≢ s
not_root p S id own s ss h o e = root_unowned S id o.scope h.root (ap (slice_get S.scopes) e ∙ o.there) o.owner

-- The scopes with another range at an open scope.
range_valid : (p : Program) (S : State) (s : ℕ) (scope y : Scope) → IsValid p S → 0 ≢ s → IsOpen S s → slice_get S.scopes s ≡ Some scope
    → y.owner ≡ scope.owner → y.parent ≡ scope.parent → IsValid p (record S { scopes = slice_set S.scopes s y })
range_valid p S s scope y h n o at owner parent =
    scopes_valid p S (slice_set S.scopes s y) h (keep_set S.scopes s scope y at owner parent) (get_unset S.scopes s 0 y n ∙ h.root) (λ r x e l. ranges r x e l (number_split r s))
  where
    ranges : (r : ℕ) (x : Scope) → slice_get (slice_set S.scopes s y) r ≡ Some x → range_left x.range ≡ true → (r ≡ s) ⊎ (r ≢ s) → IsOpen S r
    ranges r x e l (inl k) = subst (IsOpen S) (sym k) o
    ranges r x e l (inr k) = h.ranges r x (sym (get_unset S.scopes s r y k) ∙ e) l

begin_in_valid : (p : Program) (L : ℕ) (S T : State) (owner : TaskId) (s index : ℕ) (kid : TaskId) (scope : Scope) → IsValid p S → 0 ≢ s → IsOpen S s → slice_get S.scopes s ≡ Some scope
    → (range : Option Range) → begin_in p L S owner s index kid scope range ≡ Some T → IsValid p T
begin_in_valid p L S T owner s index kid scope h n o at None e = cc
begin_in_valid p L S T owner s index kid scope h n o at (Some r) e =
    let y : Scope = record scope { range = Some (record r { begun = set.insert r.begun index }) } in
    let mid : State = record S { scopes = slice_set S.scopes s y } in
    let new : Task = child p L s r.target (index ∷ r.args) in
    let k = tells_when _ (set_task mid kid new) T e in
    let none : get S.tasks kid ≡ None = is_new (get S.tasks kid) (and_both (nat_le r.lo index && nat_lt index r.hi && not (set.contains r.begun index)) (new_id S kid) k.0).1 in
    let v : IsValid p mid = range_valid p S s scope y h n o at refl refl in
    subst (IsValid p) k.1 (new_valid p mid kid new v none (inr (open_same S mid refl s o)) (child_valid p L (slice_set S.scopes s y) kid s r.target (index ∷ r.args)))

begin_at_valid : (p : Program) (L : ℕ) (S T : State) (owner : TaskId) (t : Task) (index : ℕ) (kid : TaskId) → IsValid p S → get S.tasks owner ≡ Some t
    → (ss : List ℕ) → t.opened ≡ ss → begin_at p L S owner index kid ss ≡ Some T → IsValid p T
begin_at_valid p L S T owner t index kid h at [] o e = cc
begin_at_valid p L S T owner t index kid h at (s ∷ ss) o e =
    let f = by_found (slice_get S.scopes s) (λ scope. begin_in p L S owner s index kid scope scope.range) T e in
    let all : AreOpened S.scopes owner t.scope (s ∷ ss) = subst (AreOpened S.scopes owner t.scope) o (h.tasks owner t at).opened in
    let open_one : IsOpen S s = record { id = owner; task = t; there = at; opened = ap (λ (xs : List ℕ). holds xs s) o ∙ holds_first s ss } in
    begin_in_valid p L S T owner s index kid f.0 h (not_root p S owner t.scope s ss h all.0) open_one f.1 f.0.range f.2

pub begin_valid : (p : Program) (L : ℕ) (S T : State) (owner : TaskId) (t : Task) (index : ℕ) (kid : TaskId) → IsValid p S → get S.tasks owner ≡ Some t
    → begin_step p L S owner t index kid ≡ Some T → IsValid p T
begin_valid p L S T owner t index kid h at e = begin_at_valid p L S T owner t index kid h at t.opened refl (by_loop t.mode _ T e).1
