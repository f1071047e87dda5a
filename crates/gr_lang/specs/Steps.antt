-- The plain step: the state after one entry, or nothing where the entry isn't allowed.
use Rattle.std.specs.Prelude.{ℕ, ◌==◌, Bool, true, not, ◌&&◌, nat_lt, nat_le, if◌then◌else◌, List, [], ◌∷◌, ◌++◌, length, slice_get, slice_set, Option, Some, None, is_none}
use Rattle.std.specs.Option.{option_and_then}
use Rattle.std.specs.Str.{bytes_eq}
use Rattle.std.specs.FinMap as fin
use Rattle.std.specs.FinSet as set
use Rattle.gr_syntax.specs.declared.syntax.Program.{Program}
use Rattle.gr_lang.specs.declared.action.Op.{Op}
use Rattle.gr_lang.specs.declared.action.How.{How}
use Rattle.gr_lang.specs.declared.action.How.TheVariants as how
use Rattle.gr_lang.specs.declared.action.Action.{Action}
use Rattle.gr_lang.specs.declared.action.Action.TheVariants as action
use Rattle.gr_lang.specs.declared.action.Entry.{Entry}
use Rattle.gr_lang.specs.declared.action.Entry.TheVariants as entry
use Rattle.gr_lang.specs.declared.action.TrapKind.{TrapKind}
use Rattle.gr_lang.specs.declared.action.TrapKind.TheVariants as trap
use Rattle.gr_lang.specs.declared.action.Reply.{Reply}
use Rattle.gr_lang.specs.declared.action.TaskId.{TaskId}
use Rattle.gr_lang.specs.Fields.{same_reply, same_how, same_trap}
use Rattle.gr_lang.specs.Parts.{same_op}
use Rattle.gr_lang.specs.Effects.{nothing}
use Rattle.gr_lang.specs.Objects.{call}
use Rattle.gr_lang.specs.Next.{Stands, next, go_on}
use Rattle.gr_lang.specs.States.{going, at_loop, ended, trapped, Task, Range, Scope, State, child, innermost, is_going, is_at_loop, left}

abbrev pub set_task : State → TaskId → Task → State
set_task state id task = record state { tasks = fin.insert state.tasks id task }

-- The state, where the test holds.
abbrev pub when : Bool → State → Option State
when b state = if b then Some state else None

-- A task at its next action.
abbrev pub standing : Task → Stands → Task
standing task at = record task { action = at.0; running = at.1; mode = going }

-- A task goes on after its action, with the reply's words.
abbrev pub goes_on : Program → ℕ → Task → Reply → Task
goes_on program limit task reply = standing task (next program limit (go_on task.running reply))

-- A new scope of the task, numbered next, becomes its innermost.
abbrev pub new_scope : Task → TaskId → Option Range → Scope
new_scope task id range = record { owner = Some id; parent = innermost task; range = range }

abbrev pub open_scope : State → TaskId → Task → Task → Option Range → State
open_scope state id task after range = record state {
  tasks = fin.insert state.tasks id (record after { opened = length state.scopes ∷ task.opened });
  scopes = state.scopes ++ new_scope task id range ∷ [];
}

-- Whether a spawn names no core, or one that there is.
abbrev pub has_core : ℕ → How → Bool
has_core cores (how.At c) = nat_lt c cores
has_core cores _ = true

abbrev pub is_new : State → TaskId → Bool
is_new state id = is_none (fin.get state.tasks id)

-- Call: the next action is this call, and the reply is the object call's.
abbrev pub called : Program → ℕ → State → TaskId → Task → Op → Reply → State
called program limit state id task op reply = record (set_task state id (goes_on program limit task reply)) { objects = (call op state.objects).0 }

abbrev pub call_step : Program → ℕ → State → TaskId → Task → Action → Op → Reply → Option State
call_step program limit state id task (action.Call due) op reply = when (same_op due op && same_reply reply (call op state.objects).1) (called program limit state id task op reply)
call_step program limit state id task _ op reply = None

-- Spawn: the next action is this spawn, its core is one that there is, and the child is new; the child stands under the task's innermost scope.
abbrev pub spawn_step : Program → ℕ → ℕ → State → TaskId → Task → Action → How → ℕ → List ℕ → TaskId → Option State
spawn_step program cores limit state id task (action.Spawn way target args) way2 target2 args2 kid =
    when (same_how way way2 && (target == target2) && bytes_eq args args2 && has_core cores way && is_new state kid)
    (set_task (set_task state id (goes_on program limit task nothing)) kid (child program limit (innermost task) target args))
spawn_step program cores limit state id task _ way target args kid = None

-- Finish: a scope is opened, and the task goes on in it.
abbrev pub finish_step : Program → ℕ → State → TaskId → Task → Action → Option State
finish_step program limit state id task action.Finish = Some (open_scope state id task (goes_on program limit task nothing) None)
finish_step program limit state id task _ = None

-- Loop: a scope is opened of which no index has begun, and the task waits at its loop.
abbrev pub loop_step : State → TaskId → Task → Action → ℕ → ℕ → ℕ → ℕ → List ℕ → Option State
loop_step state id task (action.Loop lo hi grain target args) lo2 hi2 grain2 target2 args2 =
    when (lo == lo2 && hi == hi2 && grain == grain2 && target == target2 && bytes_eq args args2)
    (open_scope state id task (record task { mode = at_loop }) (Some (record { lo = lo; hi = hi; target = target; args = args; begun = set.empty })))
loop_step state id task _ lo hi grain target args = None

-- Begin: an index of the range that hasn't begun begins as a new task in the loop's scope, with the index before the arguments.
abbrev pub begin_in : Program → ℕ → State → TaskId → ℕ → ℕ → TaskId → Scope → Option Range → Option State
begin_in program limit state owner number index kid scope None = None
begin_in program limit state owner number index kid scope (Some range) =
    when (nat_le range.lo index && nat_lt index range.hi && not (set.contains range.begun index) && is_new state kid)
    (record (set_task state kid (child program limit number range.target (index ∷ range.args))) { scopes = slice_set state.scopes number (record scope { range = Some (record range { begun = set.insert range.begun index }) }) })

abbrev pub begin_at : Program → ℕ → State → TaskId → ℕ → TaskId → List ℕ → Option State
begin_at program limit state owner index kid [] = None
begin_at program limit state owner index kid (number ∷ outer) = option_and_then (λ scope. begin_in program limit state owner number index kid scope scope.range) (slice_get state.scopes number)

abbrev pub begin_step : Program → ℕ → State → TaskId → Task → ℕ → TaskId → Option State
begin_step program limit state owner task index kid = if is_at_loop task.mode then begin_at program limit state owner index kid task.opened else None

-- Pass: the task waits at its loop, or its next action is the end of a finish; no work is left under the innermost scope, which is passed.
abbrev pub pass_from : Program → ℕ → State → TaskId → Task → List ℕ → Option State
pass_from program limit state id task [] = None
pass_from program limit state id task (scope ∷ scopes) = when (not (left state scope)) (set_task state id (record (goes_on program limit task nothing) { opened = scopes }))

abbrev pub arrive_step : Program → ℕ → State → TaskId → Task → Action → Option State
arrive_step program limit state id task action.Arrive = pass_from program limit state id task task.opened
arrive_step program limit state id task _ = None

abbrev pub pass_step : Program → ℕ → State → TaskId → Task → Option State
pass_step program limit state id task = if is_at_loop task.mode then pass_from program limit state id task task.opened else (if is_going task.mode then arrive_step program limit state id task task.action else None)

-- End: the next action is the end of the body.
abbrev pub end_step : State → TaskId → Task → Action → Option State
end_step state id task action.End = Some (set_task state id (record task { mode = ended }))
end_step state id task _ = None

-- Trap: the next action is this trap, or a spawn at a core that there isn't.
abbrev pub trap_step : ℕ → State → TaskId → Task → Action → TrapKind → Option State
trap_step cores state id task (action.Trap kind) kind2 = when (same_trap kind kind2) (set_task state id (record task { mode = trapped }))
trap_step cores state id task (action.Spawn way target args) trap.Core = when (not (has_core cores way)) (set_task state id (record task { mode = trapped }))
trap_step cores state id task _ kind = None

-- Over: no work is left under the root, which is passed.
abbrev pub over_step : State → Option State
over_step state = when (not state.passed && not (left state 0)) (record state { passed = true })

-- Where the task is there, and where it is going.
abbrev pub of_task : State → TaskId → (Task → Option State) → Option State
of_task state id f = option_and_then f (fin.get state.tasks id)

abbrev pub if_going : (Task → Option State) → Task → Option State
if_going f task = if is_going task.mode then f task else None

-- The plain step of a program on so many cores with this limit of pure steps.
abbrev pub step : Program → ℕ → ℕ → State → Entry → Option State
step program cores limit state (entry.Call id op reply) = of_task state id (if_going (λ task. call_step program limit state id task task.action op reply))
step program cores limit state (entry.Spawn id way target args kid) = of_task state id (if_going (λ task. spawn_step program cores limit state id task task.action way target args kid))
step program cores limit state (entry.Finish id) = of_task state id (if_going (λ task. finish_step program limit state id task task.action))
step program cores limit state (entry.Loop id lo hi grain target args) = of_task state id (if_going (λ task. loop_step state id task task.action lo hi grain target args))
step program cores limit state (entry.Begin owner index kid) = of_task state owner (λ task. begin_step program limit state owner task index kid)
step program cores limit state (entry.Pass id) = of_task state id (λ task. pass_step program limit state id task)
step program cores limit state (entry.End id) = of_task state id (if_going (λ task. end_step state id task task.action))
step program cores limit state (entry.Trap id kind) = of_task state id (if_going (λ task. trap_step cores state id task task.action kind))
step program cores limit state entry.Over = over_step state
