-- What holds where each task starts, and is kept as a task goes on, holds of each task in each state that a history leads to.
use Rattle.std.proofs.Common.{◌≡◌, ℕ, ◌==◌, true, ◌&&◌, List, [], ◌∷◌, inl, inr, Option, Some, None, sym, ◌∙◌, subst, bytes_eq}
use Rattle.std.specs.Prelude.{if◌then◌else◌, codes, not, nat_le, nat_lt, slice_get}
use Rattle.std.specs.FinMap.{FinMap, get, insert, empty}
use Rattle.std.specs.FinSet as set
use Rattle.gr_syntax.specs.declared.syntax.Program.{Program}
use Rattle.gr_lang.specs.declared.action.Action.{Action}
use Rattle.gr_lang.specs.declared.action.Action.TheVariants as a
use Rattle.gr_lang.specs.declared.action.Entry.{Entry}
use Rattle.gr_lang.specs.declared.action.Entry.TheVariants as e
use Rattle.gr_lang.specs.declared.action.How.{How}
use Rattle.gr_lang.specs.declared.action.Op.{Op}
use Rattle.gr_lang.specs.declared.action.Reply.{Reply}
use Rattle.gr_lang.specs.declared.action.TaskId.{TaskId}
use Rattle.gr_lang.specs.declared.action.TrapKind.{TrapKind}
use Rattle.gr_lang.specs.declared.action.TrapKind.TheVariants as trap
use Rattle.gr_lang.specs.Fields.{same_how, same_reply, same_trap}
use Rattle.gr_lang.specs.Parts.{same_op}
use Rattle.gr_lang.specs.Histories.{after}
use Rattle.gr_lang.specs.Next.{Running, go_on, next, start}
use Rattle.gr_lang.specs.Objects.{call}
use Rattle.gr_lang.specs.Effects.{nothing}
use Rattle.gr_lang.specs.Openings.{target_of}
use Rattle.gr_lang.specs.States.{Mode, is_going, is_at_loop, going, at_loop, ended, trapped, Task, Range, Scope, State, id_cmp, innermost, child, main_id, opening_state, left}
use Rattle.gr_lang.specs.Steps.{step, of_task, if_going, set_task, goes_on, open_scope, called, call_step, spawn_step, finish_step, loop_step, begin_in, begin_at, begin_step, pass_from, arrive_step, pass_step, end_step, trap_step, over_step, has_core, is_new}
use Rattle.gr_lang.proofs.TaskIds.{get_none}
use Rattle.gr_valid.proofs.Maps.{IsPut, found_put}
use Rattle.gr_valid.proofs.Inverts.{by_found, by_going, by_loop, tells_when}

abbrev Tasks : Type 0
Tasks = FinMap id_cmp Task

module _ (p : Program) (N L : ℕ) (Q : Running → Type 0) (starts : (target : ℕ) (ws : List ℕ) → Q (next p L (start p target ws)).1) (on : (t : Running) (w : Reply) → Q t → Q (next p L (go_on t w)).1) where
  -- It holds of each task.
  abbrev pub All : Tasks → Type 0
  All tasks = (id : TaskId) (t : Task) → get tasks id ≡ Some t → Q t.running

  put_in : (tasks : Tasks) (id : TaskId) (u : Task) → All tasks → Q u.running → All (insert tasks id u)
  put_in tasks id u h k q v x = by (found_put tasks id q u v x)
    where
      by : IsPut tasks id u q v → Q v.running
      by (inl y) = subst (λ (w : Task). Q w.running) y.1 k
      by (inr y) = h q v y.1

  -- ---- each entry

  call_keeps : (S T : State) (id : TaskId) (t : Task) (op : Op) (w : Reply) → All S.tasks → Q t.running → (x : Action) → call_step p L S id t x op w ≡ Some T → All T.tasks
  call_keeps S T id t op w h k (a.Call due) s =
      let m = tells_when (same_op due op && same_reply w (call op S.objects).1) (called p L S id t op w) T s in
      subst (λ (V : State). All V.tasks) m.1 (put_in S.tasks id (goes_on p L t w) h (on t.running w k))
  call_keeps S T id t op w h k _ s = cc

  spawn_keeps : (S T : State) (id : TaskId) (t : Task) (way : How) (target : ℕ) (args : List ℕ) (kid : TaskId) → All S.tasks → Q t.running
      → (x : Action) → spawn_step p N L S id t x way target args kid ≡ Some T → All T.tasks
  spawn_keeps S T id t way2 target2 args2 kid h k (a.Spawn way target args) s =
      let new : Task = child p L (innermost t) target args in
      let m = tells_when (same_how way way2 && (target == target2) && bytes_eq args args2 && has_core N way && is_new S kid) (set_task (set_task S id (goes_on p L t nothing)) kid new) T s in
      let one : All (insert S.tasks id (goes_on p L t nothing)) = put_in S.tasks id (goes_on p L t nothing) h (on t.running nothing k) in
      subst (λ (V : State). All V.tasks) m.1 (put_in (insert S.tasks id (goes_on p L t nothing)) kid new one (starts target args))
  spawn_keeps S T id t way target args kid h k _ s = cc

  finish_keeps : (S T : State) (id : TaskId) (t : Task) → All S.tasks → Q t.running → (x : Action) → finish_step p L S id t x ≡ Some T → All T.tasks
  finish_keeps S T id t h k a.Finish s =
      let same : open_scope S id t (goes_on p L t nothing) None ≡ T = cc in
      subst (λ (V : State). All V.tasks) same (put_in S.tasks id _ h (on t.running nothing k))
  finish_keeps S T id t h k _ s = cc

  loop_keeps : (S T : State) (id : TaskId) (t : Task) (lo hi grain target : ℕ) (args : List ℕ) → All S.tasks → Q t.running
      → (x : Action) → loop_step S id t x lo hi grain target args ≡ Some T → All T.tasks
  loop_keeps S T id t lo2 hi2 grain2 target2 args2 h k (a.Loop lo hi grain target args) s =
      let m = tells_when (lo == lo2 && hi == hi2 && grain == grain2 && target == target2 && bytes_eq args args2) _ T s in
      subst (λ (V : State). All V.tasks) m.1 (put_in S.tasks id _ h k)
  loop_keeps S T id t lo hi grain target args h k _ s = cc

  begin_in_keeps : (S T : State) (owner : TaskId) (place index : ℕ) (kid : TaskId) (scope : Scope) (range : Option Range) → All S.tasks → begin_in p L S owner place index kid scope range ≡ Some T → All T.tasks
  begin_in_keeps S T owner place index kid scope None h s = cc
  begin_in_keeps S T owner place index kid scope (Some r) h s =
      let m = tells_when (nat_le r.lo index && nat_lt index r.hi && not (set.contains r.begun index) && is_new S kid) _ T s in
      subst (λ (V : State). All V.tasks) m.1 (put_in S.tasks kid _ h (starts r.target (index ∷ r.args)))

  begin_at_keeps : (S T : State) (owner : TaskId) (index : ℕ) (kid : TaskId) (ss : List ℕ) → All S.tasks → begin_at p L S owner index kid ss ≡ Some T → All T.tasks
  begin_at_keeps S T owner index kid [] h s = cc
  begin_at_keeps S T owner index kid (place ∷ ss) h s =
      let f = by_found (slice_get S.scopes place) (λ scope. begin_in p L S owner place index kid scope scope.range) T s in
      begin_in_keeps S T owner place index kid f.0 f.0.range h f.2

  pass_from_keeps : (S T : State) (id : TaskId) (t : Task) (ss : List ℕ) → All S.tasks → Q t.running → pass_from p L S id t ss ≡ Some T → All T.tasks
  pass_from_keeps S T id t [] h k s = cc
  pass_from_keeps S T id t (place ∷ ss) h k s =
      let m = tells_when (not (left S place)) _ T s in
      subst (λ (V : State). All V.tasks) m.1 (put_in S.tasks id _ h (on t.running nothing k))

  arrive_keeps : (S T : State) (id : TaskId) (t : Task) (x : Action) → All S.tasks → Q t.running → arrive_step p L S id t x ≡ Some T → All T.tasks
  arrive_keeps S T id t a.Arrive h k s = pass_from_keeps S T id t t.opened h k s
  arrive_keeps S T id t _ h k s = cc

  pass_keeps : (S T : State) (id : TaskId) (t : Task) → All S.tasks → Q t.running → pass_step p L S id t ≡ Some T → All T.tasks
  pass_keeps S T id t h k s = by t.mode s
    where
      by : (m : Mode) → (if is_at_loop m then pass_from p L S id t t.opened else (if is_going m then arrive_step p L S id t t.action else None)) ≡ Some T → All T.tasks
      by at_loop s = pass_from_keeps S T id t t.opened h k s
      by going s = arrive_keeps S T id t t.action h k s
      by _ s = cc

  halts : (S T : State) (id : TaskId) (t : Task) (m : Mode) → All S.tasks → Q t.running → set_task S id (record t { mode = m }) ≡ T → All T.tasks
  halts S T id t m h k same = subst (λ (V : State). All V.tasks) same (put_in S.tasks id _ h k)

  end_keeps : (S T : State) (id : TaskId) (t : Task) → All S.tasks → Q t.running → (x : Action) → end_step S id t x ≡ Some T → All T.tasks
  end_keeps S T id t h k a.End s = let same : set_task S id (record t { mode = ended }) ≡ T = cc in halts S T id t ended h k same
  end_keeps S T id t h k _ s = cc

  trap_keeps : (S T : State) (id : TaskId) (t : Task) (kind : TrapKind) → All S.tasks → Q t.running → (x : Action) → trap_step N S id t x kind ≡ Some T → All T.tasks
  trap_keeps S T id t kind h k (a.Trap due) s = halts S T id t trapped h k (tells_when (same_trap due kind) _ T s).1
  trap_keeps S T id t trap.Core h k (a.Spawn way target args) s = halts S T id t trapped h k (tells_when (not (has_core N way)) _ T s).1
  trap_keeps S T id t kind h k _ s = cc

  over_keeps : (S T : State) → All S.tasks → over_step S ≡ Some T → All T.tasks
  over_keeps S T h s = let m = tells_when (not S.passed && not (left S 0)) (record S { passed = true }) T s in subst (λ (V : State). All V.tasks) m.1 h

  -- ---- steps and histories

  -- A step of a task that is going.
  by_task : (S T : State) (id : TaskId) (f : Task → Option State) → ((t : Task) → get S.tasks id ≡ Some t → f t ≡ Some T → All T.tasks) → of_task S id (if_going f) ≡ Some T → All T.tasks
  by_task S T id f h s =
      let k = by_found (get S.tasks id) (if_going f) T s in
      let m = by_going k.0.mode (f k.0) T k.2 in
      h k.0 k.1 m.1

  step_keeps : (S T : State) (x : Entry) → All S.tasks → step p N L S x ≡ Some T → All T.tasks
  step_keeps S T (e.Call id op w) h s = by_task S T id (λ t. call_step p L S id t t.action op w) (λ t at k. call_keeps S T id t op w h (h id t at) t.action k) s
  step_keeps S T (e.Spawn id way target args kid) h s =
      by_task S T id (λ t. spawn_step p N L S id t t.action way target args kid) (λ t at k. spawn_keeps S T id t way target args kid h (h id t at) t.action k) s
  step_keeps S T (e.Finish id) h s = by_task S T id (λ t. finish_step p L S id t t.action) (λ t at k. finish_keeps S T id t h (h id t at) t.action k) s
  step_keeps S T (e.Loop id lo hi grain target args) h s =
      by_task S T id (λ t. loop_step S id t t.action lo hi grain target args) (λ t at k. loop_keeps S T id t lo hi grain target args h (h id t at) t.action k) s
  step_keeps S T (e.Begin owner index kid) h s =
      let k = by_found (get S.tasks owner) (λ t. begin_step p L S owner t index kid) T s in begin_at_keeps S T owner index kid k.0.opened h (by_loop k.0.mode _ T k.2).1
  step_keeps S T (e.Pass id) h s = let k = by_found (get S.tasks id) (λ t. pass_step p L S id t) T s in pass_keeps S T id k.0 h (h id k.0 k.1) k.2
  step_keeps S T (e.End id) h s = by_task S T id (λ t. end_step S id t t.action) (λ t at k. end_keeps S T id t h (h id t at) t.action k) s
  step_keeps S T (e.Trap id kind) h s = by_task S T id (λ t. trap_step N S id t t.action kind) (λ t at k. trap_keeps S T id t kind h (h id t at) t.action k) s
  step_keeps S T e.Over h s = over_keeps S T h s

  opens : All (opening_state p L).tasks
  opens = put_in empty main_id (child p L 0 (target_of p (codes "main")) []) (λ id t x. none id t x) (starts (target_of p (codes "main")) [])
    where
      none : (id : TaskId) (t : Task) → get (empty {X = Task} {R = id_cmp}) id ≡ Some t → Q t.running
      none id t x = let k : None ≡ Some t = sym (get_none id) ∙ x in cc

  stays : (S T : State) (h : List Entry) → All S.tasks → after p N L S h ≡ Some T → All T.tasks
  stays S T [] k s = let same : S ≡ T = cc in subst (λ (V : State). All V.tasks) same k
  stays S T (x ∷ xs) k s =
      let f = by_found (step p N L S x) (λ U. after p N L U xs) T s in
      stays f.0 T xs (step_keeps S f.0 x k f.1) f.2

  pub each_task : (S : State) (h : List Entry) → after p N L (opening_state p L) h ≡ Some S → All S.tasks
  each_task S h s = stays (opening_state p L) S h opens s
