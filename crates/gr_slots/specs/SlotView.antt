-- Suspended tasks as the code's struct keeps them.
use Rattle.std.specs.Prelude.{◌≡◌, ℕ, true, List, Option, None, IfSome, slice_index_or}
use Rattle.std.specs.Option.{option_map}
use Rattle.gr_lang.specs.declared.action.Action.{Action}
use Rattle.gr_lang.specs.declared.action.TaskId.{TaskId}
use Rattle.gr_msg.specs.declared.message.ScopeId.{ScopeId}
use Rattle.gr_code.specs.Points.{Lowered}
use Rattle.gr_task.specs.States.{Task, IsOver, state_of, waits}
use Rattle.gr_machine.specs.declared.waits.Waits.{Waits}
use Rattle.gr_machine.specs.States.{Suspended}
use Rattle.gr_slots.specs.Held.{Held}

-- A task in a slot, of which the state is over the code.
pub record TaskData : Type 0 where
  pub id : TaskId
  pub scope : ScopeId
  pub origin : ℕ
  pub action : Action
  pub state : Task
  pub waits : Waits
  pub opened : List ScopeId

-- The slots with their tasks, the ready slots, and the number of the next task.
pub record SlotsData : Type 0 where
  pub code : Lowered
  pub slots : List (Option TaskData)
  pub ready : List ℕ
  pub next : ℕ

abbrev pub suspended : Lowered → TaskData → Suspended
suspended code task = record {
  id = task.id;
  scope = task.scope;
  origin = task.origin;
  action = task.action;
  running = state_of code task.state;
  waits = task.waits;
  opened = task.opened;
}

-- What stands in each slot.
unfoldable pub slots_in : Lowered → List (Option TaskData) → ℕ → Option Suspended
slots_in code slots slot = option_map (suspended code) (slice_index_or slots slot None)

-- What the struct stands for.
abbrev pub held_in : SlotsData → Held
held_in seen = record {
  program = seen.code.program;
  tasks = record { slots = slots_in seen.code seen.slots; ready = seen.ready; next = seen.next };
}

-- The state of a task is over the code, and stands at an action.
pub record IsSuspended (code : Lowered) (state : Task) : Type 0 where
  pub over : IsOver code state
  pub stands : waits state ≡ true

-- So is that of each task.
pub record AreSuspended (code : Lowered) (slots : List (Option TaskData)) : Type 0 where
  pub each : (slot : ℕ) → IfSome (slice_index_or slots slot None) (λ task. IsSuspended code task.state)
