-- An entry leaves each task that it isn't of.
use Rattle.std.proofs.Common.{◌≡◌, ℕ, ◌==◌, Bool, true, false, ◌&&◌, List, [], ◌∷◌, inl, inr, Option, Some, None, sym, ◌∙◌, ap, subst, bytes_eq}
use Rattle.std.specs.Prelude.{if◌then◌else◌, not, nat_le, nat_lt, slice_get}
use Rattle.std.specs.FinMap.{FinMap, get, insert}
use Rattle.std.specs.FinSet as set
use Rattle.gr_syntax.specs.declared.syntax.Program.{Program}
use Rattle.gr_lang.specs.declared.action.Action.{Action}
use Rattle.gr_lang.specs.declared.action.Action.TheVariants as a
use Rattle.gr_lang.specs.declared.action.Entry.{Entry}
use Rattle.gr_lang.specs.declared.action.Entry.TheVariants as e
use Rattle.gr_lang.specs.declared.action.How.{How}
use Rattle.gr_lang.specs.declared.action.Op.{Op}
use Rattle.gr_lang.specs.declared.action.Reply.{Reply}
use Rattle.gr_lang.specs.declared.action.TaskId.{TaskId}
use Rattle.gr_lang.specs.declared.action.TrapKind.{TrapKind}
use Rattle.gr_lang.specs.declared.action.TrapKind.TheVariants as trap
use Rattle.gr_lang.specs.Fields.{same_how, same_reply, same_trap}
use Rattle.gr_lang.specs.Parts.{same_op}
use Rattle.gr_lang.specs.Objects.{call}
use Rattle.gr_lang.specs.Effects.{nothing}
use Rattle.gr_lang.specs.States.{Mode, is_going, is_at_loop, going, at_loop, ended, trapped, Task, Range, Scope, State, id_cmp, innermost, child, left}
use Rattle.gr_lang.specs.Steps.{step, of_task, if_going, set_task, goes_on, open_scope, called, call_step, spawn_step, finish_step, loop_step, begin_in, begin_at, begin_step, pass_from, arrive_step, pass_step, end_step, trap_step, over_step, has_core, is_new}
use Rattle.gr_valid.proofs.Inverts.{by_found, by_going, by_loop, tells_when, is_new as new_is}
use Rattle.gr_machine.specs.Slots.{same_id}
use Rattle.gr_stands.proofs.Places.{cases_id, get_other}
use Rattle.gr_batches_leaves.specs.Leaves.{IsOf}

last_of : (x y : Bool) → (x && y) ≡ true → y ≡ true
last_of true y h = h
last_of false y h = cc

module _ (p : Program) (N L : ℕ) (q : TaskId) (x : Task) where
  -- The task is there.
  abbrev Has : FinMap id_cmp Task → Type 0
  Has tasks = get tasks q ≡ Some x

  abbrev Other : TaskId → Type 0
  Other id = same_id q id ≡ false

  put_in : (tasks : FinMap id_cmp Task) (id : TaskId) (u : Task) → Other id → Has tasks → Has (insert tasks id u)
  put_in tasks id u o h = get_other tasks id q u o ∙ h

  -- A new task is another.
  new_other : (S : State) (kid : TaskId) → is_new S kid ≡ true → Has S.tasks → Other kid
  new_other S kid n h = elim (cases_id q kid) [
    | inl same ↦ absurd (none_some (sym (new_is (get S.tasks kid) n) ∙ ap (get S.tasks) (sym same) ∙ h))
    | inr o ↦ o
  ]
    where
      none_some : None ≡ Some x → ⊥
      none_some e = cc

  call_keeps : (S T : State) (id : TaskId) (t : Task) (op : Op) (w : Reply) → Other id → Has S.tasks → (y : Action) → call_step p L S id t y op w ≡ Some T → Has T.tasks
  call_keeps S T id t op w o h (a.Call due) s =
      let m = tells_when (same_op due op && same_reply w (call op S.objects).1) (called p L S id t op w) T s in
      subst (λ (V : State). Has V.tasks) m.1 (put_in S.tasks id (goes_on p L t w) o h)
  call_keeps S T id t op w o h _ s = cc

  spawn_keeps : (S T : State) (id : TaskId) (t : Task) (way : How) (target : ℕ) (args : List ℕ) (kid : TaskId) → Other id → Has S.tasks
      → (y : Action) → spawn_step p N L S id t y way target args kid ≡ Some T → Has T.tasks
  spawn_keeps S T id t way2 target2 args2 kid o h (a.Spawn way target args) s =
      let new : Task = child p L (innermost t) target args in
      let m = tells_when (same_how way way2 && (target == target2) && bytes_eq args args2 && has_core N way && is_new S kid) (set_task (set_task S id (goes_on p L t nothing)) kid new) T s in
      subst (λ (V : State). Has V.tasks) m.1
      (put_in (insert S.tasks id (goes_on p L t nothing)) kid new
      (new_other S kid (last_of (same_how way way2 && (target == target2) && bytes_eq args args2 && has_core N way) (is_new S kid) m.0) h)
      (put_in S.tasks id (goes_on p L t nothing) o h))
  spawn_keeps S T id t way target args kid o h _ s = cc

  finish_keeps : (S T : State) (id : TaskId) (t : Task) → Other id → Has S.tasks → (y : Action) → finish_step p L S id t y ≡ Some T → Has T.tasks
  finish_keeps S T id t o h a.Finish s =
      let same : open_scope S id t (goes_on p L t nothing) None ≡ T = cc in
      subst (λ (V : State). Has V.tasks) same (put_in S.tasks id _ o h)
  finish_keeps S T id t o h _ s = cc

  loop_keeps : (S T : State) (id : TaskId) (t : Task) (lo hi grain target : ℕ) (args : List ℕ) → Other id → Has S.tasks
      → (y : Action) → loop_step S id t y lo hi grain target args ≡ Some T → Has T.tasks
  loop_keeps S T id t lo2 hi2 grain2 target2 args2 o h (a.Loop lo hi grain target args) s =
      let m = tells_when (lo == lo2 && hi == hi2 && grain == grain2 && target == target2 && bytes_eq args args2) _ T s in
      subst (λ (V : State). Has V.tasks) m.1 (put_in S.tasks id _ o h)
  loop_keeps S T id t lo hi grain target args o h _ s = cc

  begin_in_keeps : (S T : State) (owner : TaskId) (place index : ℕ) (kid : TaskId) (scope : Scope) (range : Option Range) → Has S.tasks → begin_in p L S owner place index kid scope range ≡ Some T → Has T.tasks
  begin_in_keeps S T owner place index kid scope None h s = cc
  begin_in_keeps S T owner place index kid scope (Some r) h s =
      let m = tells_when (nat_le r.lo index && nat_lt index r.hi && not (set.contains r.begun index) && is_new S kid) _ T s in
      subst (λ (V : State). Has V.tasks) m.1
      (put_in S.tasks kid _ (new_other S kid (last_of (nat_le r.lo index && nat_lt index r.hi && not (set.contains r.begun index)) (is_new S kid) m.0) h) h)

  begin_at_keeps : (S T : State) (owner : TaskId) (index : ℕ) (kid : TaskId) (ss : List ℕ) → Has S.tasks → begin_at p L S owner index kid ss ≡ Some T → Has T.tasks
  begin_at_keeps S T owner index kid [] h s = cc
  begin_at_keeps S T owner index kid (place ∷ ss) h s =
      let f = by_found (slice_get S.scopes place) (λ scope. begin_in p L S owner place index kid scope scope.range) T s in
      begin_in_keeps S T owner place index kid f.0 f.0.range h f.2

  pass_from_keeps : (S T : State) (id : TaskId) (t : Task) (ss : List ℕ) → Other id → Has S.tasks → pass_from p L S id t ss ≡ Some T → Has T.tasks
  pass_from_keeps S T id t [] o h s = cc
  pass_from_keeps S T id t (place ∷ ss) o h s =
      let m = tells_when (not (left S place)) _ T s in
      subst (λ (V : State). Has V.tasks) m.1 (put_in S.tasks id _ o h)

  arrive_keeps : (S T : State) (id : TaskId) (t : Task) (y : Action) → Other id → Has S.tasks → arrive_step p L S id t y ≡ Some T → Has T.tasks
  arrive_keeps S T id t a.Arrive o h s = pass_from_keeps S T id t t.opened o h s
  arrive_keeps S T id t _ o h s = cc

  pass_keeps : (S T : State) (id : TaskId) (t : Task) → Other id → Has S.tasks → pass_step p L S id t ≡ Some T → Has T.tasks
  pass_keeps S T id t o h s = by t.mode s
    where
      by : (m : Mode) → (if is_at_loop m then pass_from p L S id t t.opened else (if is_going m then arrive_step p L S id t t.action else None)) ≡ Some T → Has T.tasks
      by at_loop s = pass_from_keeps S T id t t.opened o h s
      by going s = arrive_keeps S T id t t.action o h s
      by _ s = cc

  halts : (S T : State) (id : TaskId) (t : Task) (m : Mode) → Other id → Has S.tasks → set_task S id (record t { mode = m }) ≡ T → Has T.tasks
  halts S T id t m o h same = subst (λ (V : State). Has V.tasks) same (put_in S.tasks id _ o h)

  end_keeps : (S T : State) (id : TaskId) (t : Task) → Other id → Has S.tasks → (y : Action) → end_step S id t y ≡ Some T → Has T.tasks
  end_keeps S T id t o h a.End s = let same : set_task S id (record t { mode = ended }) ≡ T = cc in halts S T id t ended o h same
  end_keeps S T id t o h _ s = cc

  trap_keeps : (S T : State) (id : TaskId) (t : Task) (kind : TrapKind) → Other id → Has S.tasks → (y : Action) → trap_step N S id t y kind ≡ Some T → Has T.tasks
  trap_keeps S T id t kind o h (a.Trap due) s = halts S T id t trapped o h (tells_when (same_trap due kind) _ T s).1
  trap_keeps S T id t trap.Core o h (a.Spawn way target args) s = halts S T id t trapped o h (tells_when (not (has_core N way)) _ T s).1
  trap_keeps S T id t kind o h _ s = cc

  over_keeps : (S T : State) → Has S.tasks → over_step S ≡ Some T → Has T.tasks
  over_keeps S T h s = let m = tells_when (not S.passed && not (left S 0)) (record S { passed = true }) T s in subst (λ (V : State). Has V.tasks) m.1 h

  -- A step of a task that is going.
  by_task : (S T : State) (id : TaskId) (f : Task → Option State) → ((t : Task) → f t ≡ Some T → Has T.tasks) → of_task S id (if_going f) ≡ Some T → Has T.tasks
  by_task S T id f h s =
      let k = by_found (get S.tasks id) (if_going f) T s in
      let m = by_going k.0.mode (f k.0) T k.2 in
      h k.0 m.1

  pub step_keeps : (S T : State) (what : Entry) → IsOf Other what → Has S.tasks → step p N L S what ≡ Some T → Has T.tasks
  step_keeps S T (e.Call id op w) o h s = by_task S T id (λ t. call_step p L S id t t.action op w) (λ t k. call_keeps S T id t op w o h t.action k) s
  step_keeps S T (e.Spawn id way target args kid) o h s =
      by_task S T id (λ t. spawn_step p N L S id t t.action way target args kid) (λ t k. spawn_keeps S T id t way target args kid o h t.action k) s
  step_keeps S T (e.Finish id) o h s = by_task S T id (λ t. finish_step p L S id t t.action) (λ t k. finish_keeps S T id t o h t.action k) s
  step_keeps S T (e.Loop id lo hi grain target args) o h s =
      by_task S T id (λ t. loop_step S id t t.action lo hi grain target args) (λ t k. loop_keeps S T id t lo hi grain target args o h t.action k) s
  step_keeps S T (e.Begin owner index kid) o h s =
      let k = by_found (get S.tasks owner) (λ t. begin_step p L S owner t index kid) T s in begin_at_keeps S T owner index kid k.0.opened h (by_loop k.0.mode _ T k.2).1
  step_keeps S T (e.Pass id) o h s = let k = by_found (get S.tasks id) (λ t. pass_step p L S id t) T s in pass_keeps S T id k.0 o h k.2
  step_keeps S T (e.End id) o h s = by_task S T id (λ t. end_step S id t t.action) (λ t k. end_keeps S T id t o h t.action k) s
  step_keeps S T (e.Trap id kind) o h s = by_task S T id (λ t. trap_step N S id t t.action kind) (λ t k. trap_keeps S T id t kind o h t.action k) s
  step_keeps S T e.Over o h s = over_keeps S T h s
