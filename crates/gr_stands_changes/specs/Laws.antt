-- The laws of outcomes that change one task in its slot, or none; and of the messages that tell of no task.
use Rattle.std.specs.Prelude.{◌≡◌, ℕ, ◌<◌, true, List, [], ◌∷◌, Some}
use Rattle.gr_lang.specs.States.{State}
use Rattle.gr_msg.specs.declared.message.Msg.{Msg}
use Rattle.gr_msg.specs.declared.message.Msg.TheVariants as msg
use Rattle.gr_msg.specs.declared.message.Unit.{Unit as WorkUnit}
use Rattle.gr_msg.specs.declared.message.Unit.TheVariants as unit
use Rattle.gr_msg.specs.declared.message.ScopeId.{ScopeId}
use Rattle.gr_lang.specs.declared.action.TaskId.{TaskId}
use Rattle.gr_machine.specs.Events.{asks}
use Rattle.gr_machine.specs.States.{Letter, Suspended}
use Rattle.gr_machine.specs.Outcomes.{Outcome}
use Rattle.gr_machine.specs.Runs.{first_unit, without_unit, splits}
use Rattle.gr_machine.specs.Serves.{serves}
use Rattle.gr_stands.specs.Worlds.{Given, machine_in, World, bodies}
use Rattle.gr_stands.specs.Stands.{IsSound, Stands}
use Rattle.gr_stands.specs.Memory.{SameMemory}
use Rattle.gr_stands_calls.specs.Acting.{letter, IsFirstLetter, Keeps, ActsQuietly}
use Rattle.gr_stands_chains.specs.Chains.{SendersStand}
use Rattle.gr_stands_changes.specs.Changes.{ChangesSlot, LeavesTasks}
use Rattle.gr_stands_changes.specs.Quiet.{IsQuiet, TurnsAreOfCores}

abbrev pub SlotChangesAreKept : Type 0
SlotChangesAreKept =
    (given : Given) (world : World) (before after : State) (me : ℕ) (got : List Letter) (outcome : Outcome) (slot : ℕ) (task next : Suspended)
    → Stands given world before → me < given.setup.cores → ChangesSlot given world before after me got outcome slot task next → Keeps given world me got outcome after

-- The plain state may be another one with the same tasks and the same memory.
abbrev pub LeavingIsKept : Type 0
LeavingIsKept =
    (given : Given) (world : World) (before after : State) (me : ℕ) (got : List Letter) (outcome : Outcome)
    → Stands given world before → me < given.setup.cores → LeavesTasks (bodies world me) got outcome
    → after.tasks ≡ before.tasks → SameMemory before.objects after.objects → Keeps given world me got outcome after

-- Serve: a message that tells of no task, where it finds something to act on.
abbrev pub QuietMessagesAreServed : Type 0
QuietMessagesAreServed =
    (given : Given) (world : World) (state : State) (me from : ℕ) (message : Msg) (outcome : Outcome)
    → IsSound given → Stands given world state → SendersStand given world → TurnsAreOfCores given world → IsFirstLetter given world me from message
    → IsQuiet message → serves (machine_in given) me (bodies world me) from message ≡ Some outcome
    → ActsQuietly given world state me (letter from message ∷ []) (Some outcome)

-- Steal: another core is asked for work.
abbrev pub StealsAreAsked : Type 0
StealsAreAsked =
    (given : Given) (world : World) (state : State) (me victim : ℕ)
    → Stands given world state → me < given.setup.cores → victim < given.setup.cores → ActsQuietly given world state me [] (Some (asks victim (bodies world me)))

-- Serve: a unit that was asked for comes. That the core has asked is a fact of the part of work.
abbrev pub GiftsAreTaken : Type 0
GiftsAreTaken =
    (given : Given) (world : World) (state : State) (me from : ℕ) (unit : WorkUnit)
    → Stands given world state → IsFirstLetter given world me from (msg.StealGive unit) → (bodies world me).steals.asked from ≡ true
    → ActsQuietly given world state me (letter from (msg.StealGive unit) ∷ []) (serves (machine_in given) me (bodies world me) from (msg.StealGive unit))

-- Run: a chunk is split.
abbrev pub ChunksAreSplit : Type 0
ChunksAreSplit =
    (given : Given) (world : World) (state : State) (me target : ℕ) (args : List ℕ) (scope : ScopeId) (origin : ℕ) (owner : TaskId) (lo hi grain : ℕ)
    → Stands given world state → me < given.setup.cores → first_unit (bodies world me) ≡ Some (unit.Chunk target args scope origin owner lo hi grain)
    → ActsQuietly given world state me [] (Some (splits (without_unit (bodies world me)) (unit.Chunk target args scope origin owner lo hi grain)))
