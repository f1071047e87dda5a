-- Calls and spawns keep a state valid.
use Rattle.std.proofs.Common.{◌≡◌, ◌≢◌, ℕ, ◌+◌, ◌==◌, List, [], ◌∷◌, length, false, ◌&&◌, ◌⊎◌, inl, inr, Some, None, refl, sym, ap, ◌∙◌, subst, arith, bytes_eq}
use Rattle.std.specs.Ordering.{eq_by_cmp}
use Rattle.std.specs.FinMap.{insert, get}
use Rattle.gr_syntax.specs.declared.syntax.Program.{Program}
use Rattle.gr_lang.specs.declared.action.Action.{Action}
use Rattle.gr_lang.specs.declared.action.Action.TheVariants as a
use Rattle.gr_lang.specs.declared.action.Op.{Op}
use Rattle.gr_lang.specs.declared.action.How.{How}
use Rattle.gr_lang.specs.declared.action.Reply.{Reply}
use Rattle.gr_lang.specs.declared.action.TaskId.{TaskId}
use Rattle.gr_lang.specs.Fields.{same_how}
use Rattle.gr_lang.specs.Effects.{nothing}
use Rattle.gr_lang.specs.Next.{go_on}
use Rattle.gr_lang.specs.States.{going, ended, Task, State, id_cmp, innermost, innermost_of, child}
use Rattle.gr_lang.specs.Steps.{set_task, goes_on, called, call_step, spawn_step, has_core, is_new as new_id}
use Rattle.gr_valid.specs.Valid.{arrives, IsValid, IsValidTask, IsOpen}
use Rattle.gr_valid.proofs.Maps.{id_split, get_same, get_other}
use Rattle.gr_valid.proofs.Scopes.{holds, holds_first}
use Rattle.gr_valid.proofs.Counts.{and_both}
use Rattle.gr_valid.proofs.Changes.{same_valid, set_valid, new_valid}
use Rattle.gr_valid.proofs.Goes.{went, level_at, goes_valid, child_valid}
use Rattle.gr_valid.proofs.Inverts.{tells_when, going_works, is_new}

-- A task goes on after an action that neither opens nor closes a scope.
plain_goes : (p : Program) (L : ℕ) (S : State) (id : TaskId) (t : Task) (w : Reply) → IsValid p S → get S.tasks id ≡ Some t → t.mode ≡ going
    → arrives (go_on t.running w).todo ≡ arrives t.running.todo → IsValid p (set_task S id (goes_on p L t w))
plain_goes p L S id t w h at m k =
    let v : IsValidTask p S.scopes id t = h.tasks id t at in
    let l : arrives t.running.todo + 0 ≡ length t.opened = level_at p S.scopes id t going v m in
    set_valid p S id t (goes_on p L t w) h at refl (λ _. going_works t.mode m) (λ r n e. e) (goes_valid p L S.scopes id t w t.opened (omega (arith, k, l)) v.opened)

pub call_valid : (p : Program) (L : ℕ) (S T : State) (id : TaskId) (t : Task) (op : Op) (w : Reply) → IsValid p S → get S.tasks id ≡ Some t → t.mode ≡ going
    → (x : Action) → t.action ≡ x → call_step p L S id t x op w ≡ Some T → IsValid p T
call_valid p L S T id t op w h at m (a.Call due) x e =
    let k = tells_when _ (called p L S id t op w) T e in
    let v : IsValid p (set_task S id (goes_on p L t w)) = plain_goes p L S id t w h at m (went p S.scopes id t (a.Call due) w (h.tasks id t at) x (λ n. n)) in
    subst (IsValid p) k.1 (same_valid p (set_task S id (goes_on p L t w)) (called p L S id t op w) refl refl v)
call_valid p L S T id t op w h at m _ x e = cc

-- ---- spawns

-- The innermost scope of a task that hasn't ended is the root or open.
pub innermost_held : (p : Program) (S : State) (id : TaskId) (t : Task) → IsValid p S → get S.tasks id ≡ Some t → t.mode ≢ ended → (innermost t ≡ 0) ⊎ IsOpen S (innermost t)
innermost_held p S id t h at n = by t.opened refl
  where
    by : (ss : List ℕ) → t.opened ≡ ss → (innermost_of t.scope ss ≡ 0) ⊎ IsOpen S (innermost_of t.scope ss)
    by [] e = h.held id t at n
    by (s ∷ ss) e = inr (record { id = id; task = t; there = at; opened = ap (λ (xs : List ℕ). holds xs s) e ∙ holds_first s ss })

-- A new id is new after another task has gone on.
pub new_after : (S : State) (id kid : TaskId) (t u : Task) → get S.tasks id ≡ Some t → get S.tasks kid ≡ None → get (insert S.tasks id u) kid ≡ None
new_after S id kid t u at none = by (id_split kid id)
  where
    by : (kid ≡ id) ⊎ (eq_by_cmp id_cmp kid id ≡ false) → get (insert S.tasks id u) kid ≡ None
    by (inl e) = let k : Some t ≡ None = sym at ∙ ap (get S.tasks) (sym e) ∙ none in cc
    by (inr e) = get_other S.tasks id kid u e ∙ none

pub spawn_valid : (p : Program) (N L : ℕ) (S T : State) (id : TaskId) (t : Task) (way : How) (target : ℕ) (args : List ℕ) (kid : TaskId) → IsValid p S → get S.tasks id ≡ Some t → t.mode ≡ going
    → (x : Action) → t.action ≡ x → spawn_step p N L S id t x way target args kid ≡ Some T → IsValid p T
spawn_valid p N L S T id t way2 target2 args2 kid h at m (a.Spawn way target args) x e =
    let u : Task = goes_on p L t nothing in
    let new : Task = child p L (innermost t) target args in
    let k = tells_when _ (set_task (set_task S id u) kid new) T e in
    let none : get S.tasks kid ≡ None = is_new (get S.tasks kid) (and_both (same_how way way2 && (target == target2) && bytes_eq args args2 && has_core N way) (new_id S kid) k.0).1 in
    let v : IsValid p (set_task S id u) = plain_goes p L S id t nothing h at m (went p S.scopes id t (a.Spawn way target args) nothing (h.tasks id t at) x (λ n. n)) in
    let over : (innermost t ≡ 0) ⊎ IsOpen (set_task S id u) (innermost t) = innermost_held p (set_task S id u) id u v (get_same S.tasks id u) (λ e. cc) in
    subst (IsValid p) k.1 (new_valid p (set_task S id u) kid new v (new_after S id kid t u at none) over (child_valid p L S.scopes kid (innermost t) target args))
spawn_valid p N L S T id t way target args kid h at m _ x e = cc
