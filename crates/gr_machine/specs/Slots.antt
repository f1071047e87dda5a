-- What becomes of tasks in slots: they wait, go on, are ready or are removed; and what a task in a slot waits for.
use Rattle.std.specs.Prelude.{ℕ, ◌+◌, ◌==◌, ◌&&◌, Bool, true, false, List, [], ◌∷◌, ◌++◌, Option, Some, None}
use Rattle.std.specs.Option.{option_map_or}
use Rattle.std.specs.List.{list_all}
use Rattle.gr_lang.specs.declared.action.Reply.{Reply}
use Rattle.gr_lang.specs.declared.action.TaskId.{TaskId}
use Rattle.gr_lang.specs.declared.action.WaitingCall.{WaitingCall}
use Rattle.gr_lang.specs.Next.{Stands}
use Rattle.gr_view.specs.Places.{put}
use Rattle.gr_msg.specs.Scopes.{same_scope}
use Rattle.gr_msg.specs.declared.message.ScopeId.{ScopeId}
use Rattle.gr_batch.specs.declared.wakes.Woken.{Woken}
use Rattle.gr_machine.specs.Machines.{Machine}
use Rattle.gr_machine.specs.declared.waits.Waits.{Waits}
use Rattle.gr_machine.specs.declared.waits.Waits.TheVariants as wait
use Rattle.gr_machine.specs.States.{Suspended, Tasks, Body}
use Rattle.gr_machine.specs.Outcomes.{Outcome, quietly}

abbrev pub with_tasks : Body → Tasks → Body
with_tasks body tasks = record body { tasks = tasks }

abbrev pub with_slot : Body → ℕ → Option Suspended → Body
with_slot body slot held = with_tasks body (record body.tasks { slots = put body.tasks.slots slot held })

-- The task in the slot waits.
abbrev pub waiting : Body → ℕ → Suspended → Waits → Body
waiting body slot task reason = with_slot body slot (Some (record task { waits = reason }))

-- The task in the slot is ready, the last.
abbrev pub readied : Body → ℕ → Suspended → Body
readied body slot task = with_tasks body (record body.tasks { slots = put body.tasks.slots slot (Some task); ready = body.tasks.ready ++ slot ∷ [] })

-- A task whose action finds nothing to act on is removed.
abbrev pub dropped : Body → ℕ → Outcome
dropped body slot = quietly (with_slot body slot None)

-- The number of a new task is used.
abbrev pub numbered : Body → Body
numbered body = with_tasks body (record body.tasks { next = body.tasks.next + 1 })

-- The name of the next task that is made at this core.
abbrev pub own_id : ℕ → Body → TaskId
own_id me body = record { core = me; number = body.tasks.next }

-- A task at its next action.
abbrev pub stands_at : Suspended → Stands → Suspended
stands_at task at = record task { action = at.0; running = at.1; waits = wait.Going }

-- A task that goes on after its action, with the reply.
abbrev pub goes_on : Machine → Suspended → Reply → Suspended
goes_on machine task reply = stands_at task (machine.code.go_on task.running reply)

-- The scope under which new work of the task stands: the innermost that it has opened, or else its own.
abbrev pub innermost_of : ScopeId → List ScopeId → ScopeId
innermost_of own [] = own
innermost_of own (scope ∷ scopes) = scope

abbrev pub innermost : Suspended → ScopeId
innermost task = innermost_of task.scope task.opened

-- What waits for what

abbrev pub same_id : TaskId → TaskId → Bool
same_id one other = one.core == other.core && one.number == other.number

abbrev pub awaits_reply : Waits → Bool
awaits_reply wait.Reply = true
awaits_reply _ = false

abbrev pub awaits_batch : ℕ → Waits → Bool
awaits_batch number (wait.Batch batch) = batch == number
awaits_batch number _ = false

abbrev pub awaits_turn : ℕ → Waits → Bool
awaits_turn number (wait.Turn vector) = vector == number
awaits_turn number _ = false

abbrev pub awaits_enrolment : ScopeId → Waits → Bool
awaits_enrolment scope (wait.Enrolment other) = same_scope other scope
awaits_enrolment scope _ = false

abbrev pub awaits_scope : ScopeId → Waits → Bool
awaits_scope scope (wait.Scope other) = same_scope other scope
awaits_scope scope _ = false

-- Whether a task is there that waits for this; whether it is the task of this name.
abbrev pub one_awaits : (Waits → Bool) → Option Suspended → Bool
one_awaits awaits held = option_map_or (λ task. awaits task.waits) held false

abbrev pub named_awaits : (Waits → Bool) → TaskId → Option Suspended → Bool
named_awaits awaits id held = option_map_or (λ task. awaits task.waits && same_id task.id id) held false

-- Whether such a task is in the slot.
abbrev pub slot_awaits : (Waits → Bool) → Body → ℕ → Bool
slot_awaits awaits body slot = one_awaits awaits (body.tasks.slots slot)

abbrev pub task_awaits : (Waits → Bool) → Body → ℕ → TaskId → Bool
task_awaits awaits body slot id = named_awaits awaits id (body.tasks.slots slot)

-- Whether the task of each of these calls waits for this.
abbrev pub calls_await : (Waits → Bool) → Body → List WaitingCall → Bool
calls_await awaits body calls = list_all (λ call. task_awaits awaits body call.slot call.id) calls

-- Replies

abbrev pub resumed_task : Machine → Body → ℕ → Reply → Option Suspended → Body
resumed_task machine body slot reply None = body
resumed_task machine body slot reply (Some task) = readied body slot (goes_on machine task reply)

-- The task in the slot, if there is one, goes on with the reply and is ready.
abbrev pub resumed : Machine → Body → ℕ → Reply → Body
resumed machine body slot reply = resumed_task machine body slot reply (body.tasks.slots slot)

-- So do some, one after another.
abbrev pub resumed_all : Machine → Body → List Woken → Body
resumed_all machine body [] = body
resumed_all machine body (wake ∷ wakes) = resumed_all machine (resumed machine body wake.slot wake.reply) wakes

abbrev pub rewaiting_task : Body → ℕ → Waits → Option Suspended → Body
rewaiting_task body slot reason None = body
rewaiting_task body slot reason (Some task) = waiting body slot task reason

-- The tasks of these calls wait for something else.
abbrev pub rewaiting : Body → Waits → List WaitingCall → Body
rewaiting body reason [] = body
rewaiting body reason (call ∷ calls) = rewaiting (rewaiting_task body call.slot reason (body.tasks.slots call.slot)) reason calls
