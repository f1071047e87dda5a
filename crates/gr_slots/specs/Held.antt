-- The tasks of a core with the code that they run, and what becomes of a task in a slot.
use Rattle.std.specs.Prelude.{ℕ, ◌+◌, List, [], ◌∷◌, ◌++◌, drop, Option, Some, None}
use Rattle.gr_syntax.specs.declared.syntax.Program.{Program}
use Rattle.gr_lang.specs.declared.action.Reply.{Reply}
use Rattle.gr_lang.specs.declared.action.TaskId.{TaskId}
use Rattle.gr_view.specs.Places.{put}
use Rattle.gr_msg.specs.declared.message.ScopeId.{ScopeId}
use Rattle.gr_machine.specs.declared.waits.Waits.{Waits}
use Rattle.gr_machine.specs.Machines.{code_of}
use Rattle.gr_machine.specs.States.{Suspended, Tasks}
use Rattle.gr_machine.specs.Openings.{new_task, no_tasks}
use Rattle.gr_machine.specs.Slots.{stands_at}

-- The program, and the tasks.
pub record Held : Type 0 where
  pub program : Program
  pub tasks : Tasks

-- No tasks.
abbrev pub none_held : Program → Held
none_held program = record { program = program; tasks = no_tasks }

-- What stands in a slot.
abbrev pub with_slot : Held → ℕ → Option Suspended → Held
with_slot held slot task = record held { tasks = record held.tasks { slots = put held.tasks.slots slot task } }

-- The slot is ready, the last.
abbrev pub with_ready : Held → ℕ → Held
with_ready held slot = record held { tasks = record held.tasks { ready = held.tasks.ready ++ slot ∷ [] } }

-- The first ready slot isn't ready any more.
abbrev pub without_ready : Held → Held
without_ready held = record held { tasks = record held.tasks { ready = drop 1 held.tasks.ready } }

-- The number of a new task is used.
abbrev pub numbered : Held → Held
numbered held = record held { tasks = record held.tasks { next = held.tasks.next + 1 } }

-- A task that hasn't started is ready in the slot. It makes at most so many pure steps up to its first action.
abbrev pub planted : ℕ → Held → ℕ → ℕ → List ℕ → TaskId → ScopeId → ℕ → Held
planted steps held slot target args id scope origin =
    with_ready (with_slot held slot (Some (new_task id scope origin ((code_of held.program steps).start target args)))) slot

-- A change of the task in a slot, where there is one.
abbrev pub changed_by : (Suspended → Suspended) → Held → ℕ → Option Suspended → Held
changed_by change held slot None = held
changed_by change held slot (Some task) = with_slot held slot (Some (change task))

abbrev pub changed : (Suspended → Suspended) → Held → ℕ → Held
changed change held slot = changed_by change held slot (held.tasks.slots slot)

-- It waits for this.
abbrev pub to_wait : Waits → Suspended → Suspended
to_wait reason task = record task { waits = reason }

-- It has opened a scope; it has passed its innermost one.
abbrev pub to_open : ScopeId → Suspended → Suspended
to_open scope task = record task { opened = scope ∷ task.opened }

abbrev pub to_pass : Suspended → Suspended
to_pass task = record task { opened = drop 1 task.opened }

-- It goes on with the reply, with at most so many pure steps up to its next action, and is ready.
abbrev pub resumed_by : ℕ → Held → ℕ → Reply → Option Suspended → Held
resumed_by steps held slot reply None = held
resumed_by steps held slot reply (Some task) =
    with_ready (with_slot held slot (Some (stands_at task ((code_of held.program steps).go_on task.running reply)))) slot

abbrev pub resumed : ℕ → Held → ℕ → Reply → Held
resumed steps held slot reply = resumed_by steps held slot reply (held.tasks.slots slot)
