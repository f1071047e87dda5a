-- Sums over all tasks and units of work of a world: those in slots, in the queues of units, and in messages.
use Rattle.std.specs.Prelude.{ℕ, ◌+◌, ◌==◌, if◌then◌else◌, List, Option, Some, None}
use Rattle.gr_lang.specs.declared.action.TaskId.{TaskId}
use Rattle.gr_lang.specs.States.{Mode, going, at_loop, ended, trapped, Task}
use Rattle.gr_msg.specs.declared.message.Msg.{Msg}
use Rattle.gr_msg.specs.declared.message.Msg.TheVariants as msg
use Rattle.gr_msg.specs.declared.message.Unit.{Unit as WorkUnit}
use Rattle.gr_msg.specs.declared.message.Unit.TheVariants as unit
use Rattle.gr_net.specs.Sums.{total, weigh}
use Rattle.gr_machine.specs.States.{Suspended, Body}
use Rattle.gr_machine.specs.Slots.{same_id}
use Rattle.gr_stands.specs.Worlds.{Given, World, bodies, in_flight}

-- What a task in a slot weighs, and what a unit does.
pub record Weights : Type 0 where
  pub of_task : Suspended → ℕ
  pub of_unit : WorkUnit → ℕ

abbrev pub of_held : (Suspended → ℕ) → Option Suspended → ℕ
of_held weight None = 0
of_held weight (Some task) = weight task

-- The tasks and units at a core, with this many slots.
unfoldable pub body_census : Weights → ℕ → Body → ℕ
body_census weights slots body =
    total slots (λ slot. of_held weights.of_task (body.tasks.slots slot)) + (weigh weights.of_unit body.work.private + weigh weights.of_unit body.work.public)

-- The unit that a message carries.
abbrev pub carried : (WorkUnit → ℕ) → ℕ → ℕ → Msg → ℕ
carried weight from to (msg.Spawn unit) = weight unit
carried weight from to (msg.StealGive unit) = weight unit
carried weight from to _ = 0

unfoldable pub census : Weights → Given → World → ℕ
census weights given world =
    total given.setup.cores (λ core. body_census weights given.slots (bodies world core)) + in_flight (carried weights.of_unit) given.setup.cores world

-- 1 for the task of a name, in a slot or as a unit that hasn't started.
abbrev pub is_named : TaskId → TaskId → ℕ
is_named id other = if same_id other id then 1 else 0

abbrev pub is_single : TaskId → WorkUnit → ℕ
is_single id (unit.Single target args scope origin name) = is_named id name
is_single id (unit.Chunk target args scope origin owner lo hi grain) = 0

abbrev pub is_task : TaskId → Weights
is_task id = record { of_task = λ task. is_named id task.id; of_unit = is_single id }

-- 1 for a task of the plain state that hasn't ended.
abbrev pub going_on : Mode → ℕ
going_on ended = 0
going_on _ = 1

abbrev pub is_unended : Option Task → ℕ
is_unended None = 0
is_unended (Some task) = going_on task.mode
