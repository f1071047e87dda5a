-- The laws of Run, where no slot is ready.
use Rattle.std.specs.Prelude.{◌≡◌, ℕ, ◌<◌, List, [], Some, None}
use Rattle.gr_lang.specs.declared.action.TaskId.{TaskId}
use Rattle.gr_lang.specs.States.{State}
use Rattle.gr_msg.specs.declared.message.ScopeId.{ScopeId}
use Rattle.gr_msg.specs.declared.message.Unit.{Unit as WorkUnit}
use Rattle.gr_msg.specs.declared.message.Unit.TheVariants as unit
use Rattle.gr_machine.specs.Outcomes.{Outcome}
use Rattle.gr_machine.specs.Runs.{first_unit, without_unit, run_unit, begins}
use Rattle.gr_stands.specs.Worlds.{Given, machine_in, World, bodies}
use Rattle.gr_stands.specs.Stands.{Stands}
use Rattle.gr_stands_calls.specs.Acting.{ActsWithEntry}
use Rattle.gr_stands_chains.specs.Chains.{ActsWithEntries}
use Rattle.gr_stands_units.specs.Indices.{IsIndex, UnitTells}

-- The first index of a chunk begins as a new task, in a slot that is free.
abbrev pub IndicesBegin : Type 0
IndicesBegin =
    (given : Given) (world : World) (state : State) (me slot target : ℕ) (args : List ℕ) (scope : ScopeId) (origin : ℕ) (owner : TaskId) (lo hi grain : ℕ)
    → Stands given world state → me < given.setup.cores
    → first_unit (bodies world me) ≡ Some (unit.Chunk target args scope origin owner lo hi grain) → (bodies world me).tasks.slots slot ≡ None → slot < given.slots
    → IsIndex state owner target args lo → origin < given.setup.cores
    → ActsWithEntry given world state me [] (Some (begins (machine_in given) me (without_unit (bodies world me)) slot target args scope origin owner lo hi grain))

-- Run: the next unit is taken up, where it may be.
abbrev pub UnitsAreTakenUp : Type 0
UnitsAreTakenUp =
    (given : Given) (world : World) (state : State) (me slot : ℕ) (work : WorkUnit) (outcome : Outcome)
    → Stands given world state → me < given.setup.cores → (bodies world me).tasks.ready ≡ []
    → first_unit (bodies world me) ≡ Some work → (bodies world me).tasks.slots slot ≡ None → slot < given.slots → UnitTells given state work
    → run_unit (machine_in given) me (without_unit (bodies world me)) slot (first_unit (bodies world me)) ≡ Some outcome
    → ActsWithEntries given world state me [] (Some outcome)
