-- The opening state is valid, each step of a valid state leads to a valid state, and so does each history.
use Rattle.std.proofs.Common.{◌≡◌, ℕ, zero, suc, List, [], ◌∷◌, slice_get, true, false, ◌⊎◌, inl, inr, Option, Some, None, refl, sym, ap, ◌∙◌, subst}
use Rattle.std.specs.Prelude.{codes}
use Rattle.std.specs.FinMap.{get, empty}
use Rattle.gr_syntax.specs.declared.syntax.Program.{Program}
use Rattle.gr_lang.specs.declared.action.Entry.{Entry}
use Rattle.gr_lang.specs.declared.action.Entry.TheVariants as e
use Rattle.gr_lang.specs.declared.action.TaskId.{TaskId}
use Rattle.gr_lang.specs.Openings.{target_of}
use Rattle.gr_lang.specs.States.{going, Task, Scope, State, id_cmp, root, main_id, child, opening_state, range_left}
use Rattle.gr_lang.specs.Steps.{step, of_task, if_going, call_step, spawn_step, finish_step, loop_step, begin_step, pass_step, end_step, trap_step}
use Rattle.gr_lang.specs.Histories.{after}
use Rattle.gr_lang.proofs.TaskIds.{get_none}
use Rattle.gr_valid.specs.Valid.{IsValid, IsValidTask, IsOpen}
use Rattle.gr_valid.specs.Work.{OpensValid, StepsValid, HistoriesValid}
use Rattle.gr_valid.proofs.Maps.{IsPut, found_put}
use Rattle.gr_valid.proofs.Goes.{child_valid}
use Rattle.gr_valid.proofs.Inverts.{by_found, by_going}
use Rattle.gr_valid.proofs.Calls.{call_valid, spawn_valid}
use Rattle.gr_valid.proofs.Opens.{finish_valid, loop_valid, begin_valid}
use Rattle.gr_valid.proofs.Passes.{pass_valid, end_valid, trap_valid, over_valid}

-- ---- the opening state

root_empty : (r : ℕ) (x : Scope) → slice_get (root ∷ []) r ≡ Some x → range_left x.range ≡ true → ⊥
root_empty zero x h l = let k : root ≡ x = cc in let n : false ≡ true = ap (λ (z : Scope). range_left z.range) k ∙ l in cc
root_empty (suc r) x h l = cc

pub opens_valid : OpensValid
opens_valid p L = record {
  root = refl;
  tasks = λ q v x. tasks q v (found_put empty main_id q main v x);
  held = λ q v x n. held q v (found_put empty main_id q main v x);
  ranges = λ r x y l. absurd (root_empty r x y l);
}
  where
    main : Task
    main = child p L 0 (target_of p (codes "main")) []

    none : (q : TaskId) (v : Task) → get (empty {X = Task} {R = id_cmp}) q ≡ Some v → ⊥
    none q v x = let k : None ≡ Some v = sym (get_none q) ∙ x in cc

    tasks : (q : TaskId) (v : Task) → IsPut empty main_id main q v → IsValidTask p (root ∷ []) q v
    tasks q v (inl k) = subst (IsValidTask p (root ∷ []) q) k.1 (child_valid p L (root ∷ []) q 0 (target_of p (codes "main")) [])
    tasks q v (inr k) = absurd (none q v k.1)

    held : (q : TaskId) (v : Task) → IsPut empty main_id main q v → (v.scope ≡ 0) ⊎ IsOpen (opening_state p L) v.scope
    held q v (inl k) = inl (ap (λ (x : Task). x.scope) (sym k.1))
    held q v (inr k) = absurd (none q v k.1)

-- ---- a step

-- A step of a task that is going.
by_task : (p : Program) (S T : State) (id : TaskId) (f : Task → Option State) → ((t : Task) → get S.tasks id ≡ Some t → t.mode ≡ going → f t ≡ Some T → IsValid p T)
    → of_task S id (if_going f) ≡ Some T → IsValid p T
by_task p S T id f h x =
    let k = by_found (get S.tasks id) (if_going f) T x in
    let m = by_going k.0.mode (f k.0) T k.2 in
    h k.0 k.1 m.0 m.1

pub steps_valid : StepsValid
steps_valid p N L S T (e.Call id op w) h x = by_task p S T id (λ t. call_step p L S id t t.action op w) (λ t at m k. call_valid p L S T id t op w h at m t.action refl k) x
steps_valid p N L S T (e.Spawn id way target args kid) h x =
    by_task p S T id (λ t. spawn_step p N L S id t t.action way target args kid) (λ t at m k. spawn_valid p N L S T id t way target args kid h at m t.action refl k) x
steps_valid p N L S T (e.Finish id) h x = by_task p S T id (λ t. finish_step p L S id t t.action) (λ t at m k. finish_valid p L S T id t h at m t.action refl k) x
steps_valid p N L S T (e.Loop id lo hi grain target args) h x =
    by_task p S T id (λ t. loop_step S id t t.action lo hi grain target args) (λ t at m k. loop_valid p S T id t lo hi grain target args h at m t.action refl k) x
steps_valid p N L S T (e.Begin owner index kid) h x =
    let k = by_found (get S.tasks owner) (λ t. begin_step p L S owner t index kid) T x in begin_valid p L S T owner k.0 index kid h k.1 k.2
steps_valid p N L S T (e.Pass id) h x = let k = by_found (get S.tasks id) (λ t. pass_step p L S id t) T x in pass_valid p L S T id k.0 h k.1 k.2
steps_valid p N L S T (e.End id) h x = by_task p S T id (λ t. end_step S id t t.action) (λ t at m k. end_valid p S T id t h at m t.action refl k) x
steps_valid p N L S T (e.Trap id kind) h x = by_task p S T id (λ t. trap_step N S id t t.action kind) (λ t at m k. trap_valid p N S T id t h at m t.action kind k) x
steps_valid p N L S T e.Over h x = over_valid p S T h x

-- ---- a history

after_valid : (p : Program) (N L : ℕ) (S T : State) (h : List Entry) → IsValid p S → after p N L S h ≡ Some T → IsValid p T
after_valid p N L S T [] v x = let same : S ≡ T = cc in subst (IsValid p) same v
after_valid p N L S T (y ∷ ys) v x =
    let k = by_found (step p N L S y) (λ U. after p N L U ys) T x in
    after_valid p N L k.0 T ys (steps_valid p N L S k.0 y v k.1) k.2

pub histories_valid : HistoriesValid
histories_valid p N L h S x = after_valid p N L (opening_state p L) S h (opens_valid p L) x
