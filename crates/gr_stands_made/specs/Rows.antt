-- What a Run finds to do first: the rows of the machine.
use Rattle.std.specs.Prelude.{◌≡◌, ◌≤◌, ℕ, ◌<◌, ◌-◌, ◌+◌, true, List, [], length, Some, None}
use Rattle.gr_lang.specs.declared.action.TaskId.{TaskId}
use Rattle.gr_lang.specs.States.{State}
use Rattle.gr_msg.specs.declared.message.ScopeId.{ScopeId}
use Rattle.gr_msg.specs.declared.message.Unit.{Unit as WorkUnit}
use Rattle.gr_msg.specs.declared.message.Unit.TheVariants as unit
use Rattle.gr_machine.specs.Machines.{has_task}
use Rattle.gr_machine.specs.States.{Suspended}
use Rattle.gr_machine.specs.Outcomes.{Outcome, quietly}
use Rattle.gr_machine.specs.Runs.{acts, without_ready, first_unit, without_unit, is_sound, starts, splits, begins}
use Rattle.gr_machine.specs.Events.{slot_of}
use Rattle.gr_stands.specs.Worlds.{Given, machine_in, World, bodies}
use Rattle.gr_stands.specs.Actions.{ActionFits}
use Rattle.gr_stands.specs.Calls.{StandsAt}
use Rattle.gr_stands_calls.specs.Acting.{IsFirst}

-- No slot is ready, and this unit comes next.
pub record IsNext (world : World) (me : ℕ) (work : WorkUnit) : Type 0 where
  pub ready : (bodies world me).tasks.ready ≡ []
  pub next : first_unit (bodies world me) ≡ Some work

-- A slot in which no task stands, for the task that starts.
pub record IsFreeSlot (given : Given) (world : World) (me slot : ℕ) : Type 0 where
  pub free : (bodies world me).tasks.slots slot ≡ None
  pub low : slot < given.slots

-- A chunk that may be taken up: it has indices, its grain is at least 1, and its task has as many parameters.
pub record IsSoundChunk (given : Given) (target : ℕ) (args : List ℕ) (lo hi grain : ℕ) : Type 0 where
  pub known : has_task (machine_in given) target (length args + 1) ≡ true
  pub some : lo < hi
  pub grained : 0 < grain

-- A fact of each row: the action of the first ready task; a task that hasn't started; a chunk that is split, or whose first index begins; and a chunk that may
-- not be taken up, which is dropped. That there is none such is a fact of the part of work.
pub record RunRows (given : Given) (world : World) (state : State) (me : ℕ) (slots : List ℕ) (Fact : Outcome → Type 0) : Type 0 where
  pub task : (slot : ℕ) (more : List ℕ) (task : Suspended) → IsFirst world me slot more task → StandsAt state task → ActionFits (machine_in given) task.action
      → Fact (acts (machine_in given) me (without_ready (bodies world me)) slot task task.action)
  pub single : (target : ℕ) (args : List ℕ) (scope : ScopeId) (origin : ℕ) (id : TaskId)
      → IsNext world me (unit.Single target args scope origin id) → IsFreeSlot given world me (slot_of slots)
      → Fact (starts (machine_in given) (without_unit (bodies world me)) (slot_of slots) target args scope origin id)
  pub split : (target : ℕ) (args : List ℕ) (scope : ScopeId) (origin : ℕ) (owner : TaskId) (lo hi grain : ℕ)
      → IsNext world me (unit.Chunk target args scope origin owner lo hi grain) → IsSoundChunk given target args lo hi grain → grain < hi - lo
      → Fact (splits (without_unit (bodies world me)) (unit.Chunk target args scope origin owner lo hi grain))
  pub begin : (target : ℕ) (args : List ℕ) (scope : ScopeId) (origin : ℕ) (owner : TaskId) (lo hi grain : ℕ)
      → IsNext world me (unit.Chunk target args scope origin owner lo hi grain) → IsSoundChunk given target args lo hi grain → hi - lo ≤ grain
      → IsFreeSlot given world me (slot_of slots)
      → Fact (begins (machine_in given) me (without_unit (bodies world me)) (slot_of slots) target args scope origin owner lo hi grain)
  pub dropped : (target : ℕ) (args : List ℕ) (scope : ScopeId) (origin : ℕ) (owner : TaskId) (lo hi grain : ℕ)
      → IsNext world me (unit.Chunk target args scope origin owner lo hi grain)
      → (IsSoundChunk given target args lo hi grain → ⊥) → Fact (quietly (without_unit (bodies world me)))
