-- Each step of an accepted program names what the program has, and leads to a state in which each task does.
use Rattle.std.proofs.Common.{◌≡◌, ℕ, ◌==◌, true, ◌&&◌, List, [], ◌∷◌, inl, inr, Option, Some, None, refl, sym, ◌∙◌, subst, eqb-true, bytes_eq, All}
use Rattle.std.specs.Prelude.{if◌then◌else◌, codes, not, nat_le, nat_lt, slice_get}
use Rattle.std.specs.FinMap.{FinMap, get, insert, empty}
use Rattle.std.specs.FinSet as set
use Rattle.std.proofs.lemmas.List.Elements.{All-nil, All-cons}
use Rattle.gr_syntax.specs.declared.syntax.Program.{Program}
use Rattle.gr_lang.specs.declared.action.Action.{Action}
use Rattle.gr_lang.specs.declared.action.Action.TheVariants as a
use Rattle.gr_lang.specs.declared.action.Entry.{Entry}
use Rattle.gr_lang.specs.declared.action.Entry.TheVariants as e
use Rattle.gr_lang.specs.declared.action.How.{How}
use Rattle.gr_lang.specs.declared.action.Op.{Op}
use Rattle.gr_lang.specs.declared.action.Reply.{Reply}
use Rattle.gr_lang.specs.declared.action.TaskId.{TaskId}
use Rattle.gr_lang.specs.declared.action.TrapKind.{TrapKind}
use Rattle.gr_lang.specs.declared.action.TrapKind.TheVariants as trap
use Rattle.gr_lang.specs.Fields.{same_how, same_reply, same_trap}
use Rattle.gr_lang.specs.Parts.{same_op}
use Rattle.gr_lang.specs.Histories.{after}
use Rattle.gr_lang.specs.Next.{go_on, next, start}
use Rattle.gr_lang.specs.Objects.{call}
use Rattle.gr_lang.specs.Effects.{nothing}
use Rattle.gr_lang.specs.Openings.{target_of}
use Rattle.gr_lang.specs.States.{Mode, is_going, is_at_loop, going, at_loop, ended, trapped, Task, Range, Scope, State, id_cmp, innermost, child, main_id, opening_state, left}
use Rattle.gr_lang.specs.Steps.{step, of_task, if_going, set_task, goes_on, open_scope, called, call_step, spawn_step, finish_step, loop_step, begin_in, begin_at, begin_step, pass_from, arrive_step, pass_step, end_step, trap_step, over_step, has_core, is_new}
use Rattle.gr_lang.proofs.TaskIds.{get_none}
use Rattle.gr_valid.proofs.Maps.{IsPut, found_put}
use Rattle.gr_valid.proofs.Inverts.{by_found, by_going, by_loop, tells_when}
use Rattle.gr_known.specs.Known.{IsKnown, IsKnownCall, IsTask, HistoriesAreKnown}
use Rattle.gr_known.proofs.Bodies.{IsSound, sound}
use Rattle.gr_known.proofs.Actions.{IsKnownAction, both_true}
use Rattle.gr_lang.proofs.Operations.{op_is}
use Rattle.gr_known.proofs.Looks.{AreToDo, IsKnownStand, next_known, goes_on_known, start_known}

-- The task stands at an action that names what the program has, and so will each of its later actions.
pub record IsKnownTask (p : Program) (t : Task) : Type 0 where
  pub action : IsKnownAction p t.action
  pub todo : AreToDo p t.running.todo

abbrev Tasks : Type 0
Tasks = FinMap id_cmp Task

abbrev AreKnown : Program → Tasks → Type 0
AreKnown p tasks = (id : TaskId) (t : Task) → get tasks id ≡ Some t → IsKnownTask p t

-- What a step tells: its entry names what the program has, and each task after it does.
pub record Tells (p : Program) (x : Entry) (T : State) : Type 0 where
  pub entry : IsKnown p x
  pub tasks : AreKnown p T.tasks

put_known : (p : Program) (tasks : Tasks) (id : TaskId) (u : Task) → AreKnown p tasks → IsKnownTask p u → AreKnown p (insert tasks id u)
put_known p tasks id u h k q v x = by (found_put tasks id q u v x)
  where
    by : IsPut tasks id u q v → IsKnownTask p v
    by (inl y) = subst (IsKnownTask p) y.1 k
    by (inr y) = h q v y.1

goes_known : (p : Program) (L : ℕ) (t : Task) (w : Reply) → IsSound p → IsKnownTask p t → IsKnownTask p (goes_on p L t w)
goes_known p L t w q h = let k : IsKnownStand p (next p L (go_on t.running w)) = next_known p L (go_on t.running w) q (goes_on_known p t.running w h.todo) in record { action = k.action; todo = k.todo }

child_known : (p : Program) (L scope target : ℕ) (ws : List ℕ) → IsSound p → IsKnownTask p (child p L scope target ws)
child_known p L scope target ws q = let k : IsKnownStand p (next p L (start p target ws)) = next_known p L (start p target ws) q (start_known p target ws q) in record { action = k.action; todo = k.todo }

at_action : (p : Program) (t : Task) (x : Action) → IsKnownTask p t → t.action ≡ x → IsKnownAction p x
at_action p t x h e = subst (IsKnownAction p) e h.action

-- ---- each entry

call_tells : (p : Program) (L : ℕ) (S T : State) (id : TaskId) (t : Task) (op : Op) (w : Reply) → IsSound p → AreKnown p S.tasks → IsKnownTask p t
    → (x : Action) → t.action ≡ x → call_step p L S id t x op w ≡ Some T → Tells p (e.Call id op w) T
call_tells p L S T id t op w q h k (a.Call due) x s =
    let m = tells_when (same_op due op && same_reply w (call op S.objects).1) (called p L S id t op w) T s in
    let same : due ≡ op = op_is due op (both_true _ _ m.0).0 in
    let after : AreKnown p (called p L S id t op w).tasks = put_known p S.tasks id (goes_on p L t w) h (goes_known p L t w q k) in
    record { entry = subst (IsKnownCall p) same (at_action p t (a.Call due) k x); tasks = subst (λ (V : State). AreKnown p V.tasks) m.1 after }
call_tells p L S T id t op w q h k _ x s = cc

spawn_tells : (p : Program) (N L : ℕ) (S T : State) (id : TaskId) (t : Task) (way : How) (target : ℕ) (args : List ℕ) (kid : TaskId) → IsSound p → AreKnown p S.tasks → IsKnownTask p t
    → (x : Action) → t.action ≡ x → spawn_step p N L S id t x way target args kid ≡ Some T → Tells p (e.Spawn id way target args kid) T
spawn_tells p N L S T id t way2 target2 args2 kid q h k (a.Spawn way target args) x s =
    let new : Task = child p L (innermost t) target args in
    let m = tells_when (same_how way way2 && (target == target2) && bytes_eq args args2 && has_core N way && is_new S kid) (set_task (set_task S id (goes_on p L t nothing)) kid new) T s in
    let same : target ≡ target2 = eqb-true target target2 (both_true _ _ (both_true _ _ (both_true _ _ (both_true _ _ m.0).0).0).0).1 in
    let one : AreKnown p (insert S.tasks id (goes_on p L t nothing)) = put_known p S.tasks id (goes_on p L t nothing) h (goes_known p L t nothing q k) in
    let two : AreKnown p (insert (insert S.tasks id (goes_on p L t nothing)) kid new) = put_known p (insert S.tasks id (goes_on p L t nothing)) kid new one (child_known p L (innermost t) target args q) in
    record { entry = subst (IsTask p) same (at_action p t (a.Spawn way target args) k x); tasks = subst (λ (V : State). AreKnown p V.tasks) m.1 two }
spawn_tells p N L S T id t way target args kid q h k _ x s = cc

finish_tells : (p : Program) (L : ℕ) (S T : State) (id : TaskId) (t : Task) → IsSound p → AreKnown p S.tasks → IsKnownTask p t
    → (x : Action) → t.action ≡ x → finish_step p L S id t x ≡ Some T → Tells p (e.Finish id) T
finish_tells p L S T id t q h k a.Finish x s =
    let u : IsKnownTask p (goes_on p L t nothing) = goes_known p L t nothing q k in
    let same : open_scope S id t (goes_on p L t nothing) None ≡ T = cc in
    record { entry = tt; tasks = subst (λ (V : State). AreKnown p V.tasks) same (put_known p S.tasks id _ h (record { action = u.action; todo = u.todo })) }
finish_tells p L S T id t q h k _ x s = cc

loop_tells : (p : Program) (S T : State) (id : TaskId) (t : Task) (lo hi grain target : ℕ) (args : List ℕ) → AreKnown p S.tasks → IsKnownTask p t
    → (x : Action) → t.action ≡ x → loop_step S id t x lo hi grain target args ≡ Some T → Tells p (e.Loop id lo hi grain target args) T
loop_tells p S T id t lo2 hi2 grain2 target2 args2 h k (a.Loop lo hi grain target args) x s =
    let m = tells_when (lo == lo2 && hi == hi2 && grain == grain2 && target == target2 && bytes_eq args args2) _ T s in
    let same : target ≡ target2 = eqb-true target target2 (both_true _ _ (both_true _ _ m.0).0).1 in
    record {
      entry = subst (IsTask p) same (at_action p t (a.Loop lo hi grain target args) k x);
      tasks = subst (λ (V : State). AreKnown p V.tasks) m.1 (put_known p S.tasks id _ h (record { action = k.action; todo = k.todo }));
    }
loop_tells p S T id t lo hi grain target args h k _ x s = cc

begin_in_tells : (p : Program) (L : ℕ) (S T : State) (owner : TaskId) (place index : ℕ) (kid : TaskId) (scope : Scope) (range : Option Range) → IsSound p → AreKnown p S.tasks
    → begin_in p L S owner place index kid scope range ≡ Some T → Tells p (e.Begin owner index kid) T
begin_in_tells p L S T owner place index kid scope None q h s = cc
begin_in_tells p L S T owner place index kid scope (Some r) q h s =
    let m = tells_when (nat_le r.lo index && nat_lt index r.hi && not (set.contains r.begun index) && is_new S kid) _ T s in
    record { entry = tt; tasks = subst (λ (V : State). AreKnown p V.tasks) m.1 (put_known p S.tasks kid _ h (child_known p L place r.target (index ∷ r.args) q)) }

begin_at_tells : (p : Program) (L : ℕ) (S T : State) (owner : TaskId) (index : ℕ) (kid : TaskId) (ss : List ℕ) → IsSound p → AreKnown p S.tasks
    → begin_at p L S owner index kid ss ≡ Some T → Tells p (e.Begin owner index kid) T
begin_at_tells p L S T owner index kid [] q h s = cc
begin_at_tells p L S T owner index kid (place ∷ ss) q h s =
    let f = by_found (slice_get S.scopes place) (λ scope. begin_in p L S owner place index kid scope scope.range) T s in
    begin_in_tells p L S T owner place index kid f.0 f.0.range q h f.2

pass_from_tells : (p : Program) (L : ℕ) (S T : State) (id : TaskId) (t : Task) (ss : List ℕ) → IsSound p → AreKnown p S.tasks → IsKnownTask p t
    → pass_from p L S id t ss ≡ Some T → Tells p (e.Pass id) T
pass_from_tells p L S T id t [] q h k s = cc
pass_from_tells p L S T id t (place ∷ ss) q h k s =
    let m = tells_when (not (left S place)) _ T s in
    let u : IsKnownTask p (goes_on p L t nothing) = goes_known p L t nothing q k in
    record { entry = tt; tasks = subst (λ (V : State). AreKnown p V.tasks) m.1 (put_known p S.tasks id _ h (record { action = u.action; todo = u.todo })) }

arrive_tells : (p : Program) (L : ℕ) (S T : State) (id : TaskId) (t : Task) (x : Action) → IsSound p → AreKnown p S.tasks → IsKnownTask p t → arrive_step p L S id t x ≡ Some T → Tells p (e.Pass id) T
arrive_tells p L S T id t a.Arrive q h k s = pass_from_tells p L S T id t t.opened q h k s
arrive_tells p L S T id t _ q h k s = cc

pass_tells : (p : Program) (L : ℕ) (S T : State) (id : TaskId) (t : Task) → IsSound p → AreKnown p S.tasks → IsKnownTask p t → pass_step p L S id t ≡ Some T → Tells p (e.Pass id) T
pass_tells p L S T id t q h k s = by t.mode s
  where
    by : (m : Mode) → (if is_at_loop m then pass_from p L S id t t.opened else (if is_going m then arrive_step p L S id t t.action else None)) ≡ Some T → Tells p (e.Pass id) T
    by at_loop s = pass_from_tells p L S T id t t.opened q h k s
    by going s = arrive_tells p L S T id t t.action q h k s
    by _ s = cc

end_tells : (p : Program) (S T : State) (id : TaskId) (t : Task) → AreKnown p S.tasks → IsKnownTask p t → (x : Action) → end_step S id t x ≡ Some T → Tells p (e.End id) T
end_tells p S T id t h k a.End s =
    let same : set_task S id (record t { mode = ended }) ≡ T = cc in
    record { entry = tt; tasks = subst (λ (V : State). AreKnown p V.tasks) same (put_known p S.tasks id _ h (record { action = k.action; todo = k.todo })) }
end_tells p S T id t h k _ s = cc

halted : (p : Program) (S T : State) (id : TaskId) (t : Task) (kind : TrapKind) → AreKnown p S.tasks → IsKnownTask p t → set_task S id (record t { mode = trapped }) ≡ T → Tells p (e.Trap id kind) T
halted p S T id t kind h k same =
    record { entry = tt; tasks = subst (λ (V : State). AreKnown p V.tasks) same (put_known p S.tasks id _ h (record { action = k.action; todo = k.todo })) }

trap_tells : (p : Program) (N : ℕ) (S T : State) (id : TaskId) (t : Task) (kind : TrapKind) → AreKnown p S.tasks → IsKnownTask p t → (x : Action) → trap_step N S id t x kind ≡ Some T → Tells p (e.Trap id kind) T
trap_tells p N S T id t kind h k (a.Trap due) s = halted p S T id t kind h k (tells_when (same_trap due kind) _ T s).1
trap_tells p N S T id t trap.Core h k (a.Spawn way target args) s = halted p S T id t trap.Core h k (tells_when (not (has_core N way)) _ T s).1
trap_tells p N S T id t kind h k _ s = cc

over_tells : (p : Program) (S T : State) → AreKnown p S.tasks → over_step S ≡ Some T → Tells p e.Over T
over_tells p S T h s = let m = tells_when (not S.passed && not (left S 0)) (record S { passed = true }) T s in record { entry = tt; tasks = subst (λ (V : State). AreKnown p V.tasks) m.1 h }

-- ---- steps and histories

-- A step of a task that is going.
by_task : (p : Program) (S T : State) (id : TaskId) (x : Entry) (f : Task → Option State) → ((t : Task) → get S.tasks id ≡ Some t → f t ≡ Some T → Tells p x T) → of_task S id (if_going f) ≡ Some T → Tells p x T
by_task p S T id x f h s =
    let k = by_found (get S.tasks id) (if_going f) T s in
    let m = by_going k.0.mode (f k.0) T k.2 in
    h k.0 k.1 m.1

step_tells : (p : Program) (N L : ℕ) (S T : State) (x : Entry) → IsSound p → AreKnown p S.tasks → step p N L S x ≡ Some T → Tells p x T
step_tells p N L S T (e.Call id op w) q h s = by_task p S T id _ (λ t. call_step p L S id t t.action op w) (λ t at k. call_tells p L S T id t op w q h (h id t at) t.action refl k) s
step_tells p N L S T (e.Spawn id way target args kid) q h s =
    by_task p S T id _ (λ t. spawn_step p N L S id t t.action way target args kid) (λ t at k. spawn_tells p N L S T id t way target args kid q h (h id t at) t.action refl k) s
step_tells p N L S T (e.Finish id) q h s = by_task p S T id _ (λ t. finish_step p L S id t t.action) (λ t at k. finish_tells p L S T id t q h (h id t at) t.action refl k) s
step_tells p N L S T (e.Loop id lo hi grain target args) q h s =
    by_task p S T id _ (λ t. loop_step S id t t.action lo hi grain target args) (λ t at k. loop_tells p S T id t lo hi grain target args h (h id t at) t.action refl k) s
step_tells p N L S T (e.Begin owner index kid) q h s =
    let k = by_found (get S.tasks owner) (λ t. begin_step p L S owner t index kid) T s in begin_at_tells p L S T owner index kid k.0.opened q h (by_loop k.0.mode _ T k.2).1
step_tells p N L S T (e.Pass id) q h s = let k = by_found (get S.tasks id) (λ t. pass_step p L S id t) T s in pass_tells p L S T id k.0 q h (h id k.0 k.1) k.2
step_tells p N L S T (e.End id) q h s = by_task p S T id _ (λ t. end_step S id t t.action) (λ t at k. end_tells p S T id t h (h id t at) t.action k) s
step_tells p N L S T (e.Trap id kind) q h s = by_task p S T id _ (λ t. trap_step N S id t t.action kind) (λ t at k. trap_tells p N S T id t kind h (h id t at) t.action k) s
step_tells p N L S T e.Over q h s = over_tells p S T h s

opens_known : (p : Program) (L : ℕ) → IsSound p → AreKnown p (opening_state p L).tasks
opens_known p L q = put_known p empty main_id (child p L 0 (target_of p (codes "main")) []) (λ id t x. none id t x) (child_known p L 0 (target_of p (codes "main")) [] q)
  where
    none : (id : TaskId) (t : Task) → get (empty {X = Task} {R = id_cmp}) id ≡ Some t → IsKnownTask p t
    none id t x = let k : None ≡ Some t = sym (get_none id) ∙ x in cc

after_known : (p : Program) (N L : ℕ) (S T : State) (h : List Entry) → IsSound p → AreKnown p S.tasks → after p N L S h ≡ Some T → All (IsKnown p) h
after_known p N L S T [] q k s = All-nil (IsKnown p)
after_known p N L S T (x ∷ xs) q k s =
    let f = by_found (step p N L S x) (λ U. after p N L U xs) T s in
    let m : Tells p x f.0 = step_tells p N L S f.0 x q k f.1 in
    All-cons (IsKnown p) x xs m.entry (after_known p N L f.0 T xs q m.tasks f.2)

pub histories_known : HistoriesAreKnown
histories_known p N L h S accepted s = after_known p N L (opening_state p L) S h (sound p accepted) (opens_known p L (sound p accepted)) s
