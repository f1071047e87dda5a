-- The laws of a Run, row by row.
use Rattle.std.specs.Prelude.{◌≡◌, ℕ, ◌<◌, List, [], Some, None}
use Rattle.gr_lang.specs.declared.action.TaskId.{TaskId}
use Rattle.gr_lang.specs.States.{State}
use Rattle.gr_msg.specs.declared.message.ScopeId.{ScopeId}
use Rattle.gr_msg.specs.declared.message.Unit.TheVariants as unit
use Rattle.gr_machine.specs.States.{Suspended}
use Rattle.gr_machine.specs.Histories.{Sent}
use Rattle.gr_machine.specs.Runs.{acts, without_ready, first_unit, without_unit, starts, splits, begins}
use Rattle.gr_stands.specs.Worlds.{Given, machine_in, World, bodies}
use Rattle.gr_stands.specs.Stands.{IsSound}
use Rattle.gr_stands_calls.specs.Acting.{IsFirst}
use Rattle.gr_stands_runs.specs.Telling.{VectorsStand}
use Rattle.gr_scopes.specs.Trees.{Names}
use Rattle.gr_scopes_opens.specs.Keeping.{StandsWith}
use Rattle.gr_scopes_tells.specs.Told.{StandsTold}
use Rattle.gr_scopes_runs.specs.Leading.{KeepsLeading, IsInLoop}

-- A ready task acts.
abbrev pub TasksKeepScopes : Type 0
TasksKeepScopes =
    (given : Given) (sent : Sent) (names : Names) (world : World) (state : State) (me slot : ℕ) (more : List ℕ) (task : Suspended)
    → IsSound given → StandsTold given names world state → VectorsStand given world → IsFirst world me slot more task
    → KeepsLeading given sent names world state me [] (acts (machine_in given) me (without_ready (bodies world me)) slot task task.action)

-- A unit that is one task starts, in a slot that is free.
abbrev pub SinglesLead : Type 0
SinglesLead =
    (given : Given) (sent : Sent) (names : Names) (world : World) (state : State) (me slot target : ℕ) (args : List ℕ) (scope : ScopeId) (origin : ℕ) (id : TaskId)
    → StandsWith given names world state → me < given.setup.cores
    → first_unit (bodies world me) ≡ Some (unit.Single target args scope origin id) → (bodies world me).tasks.slots slot ≡ None → slot < given.slots
    → KeepsLeading given sent names world state me [] (starts (machine_in given) (without_unit (bodies world me)) slot target args scope origin id)

-- A chunk is split.
abbrev pub SplitsLead : Type 0
SplitsLead =
    (given : Given) (sent : Sent) (names : Names) (world : World) (state : State) (me target : ℕ) (args : List ℕ) (scope : ScopeId) (origin : ℕ) (owner : TaskId) (lo hi grain : ℕ)
    → StandsWith given names world state → me < given.setup.cores
    → first_unit (bodies world me) ≡ Some (unit.Chunk target args scope origin owner lo hi grain) → lo < hi
    → KeepsLeading given sent names world state me [] (splits (without_unit (bodies world me)) (unit.Chunk target args scope origin owner lo hi grain))

-- The first index of a chunk begins, in a slot that is free.
abbrev pub IndicesLead : Type 0
IndicesLead =
    (given : Given) (sent : Sent) (names : Names) (world : World) (state : State) (me slot target : ℕ) (args : List ℕ) (scope : ScopeId) (origin : ℕ) (owner : TaskId) (lo hi grain : ℕ)
    → StandsWith given names world state → me < given.setup.cores → IsInLoop names state owner scope
    → first_unit (bodies world me) ≡ Some (unit.Chunk target args scope origin owner lo hi grain) → lo < hi
    → (bodies world me).tasks.slots slot ≡ None → slot < given.slots
    → KeepsLeading given sent names world state me [] (begins (machine_in given) me (without_unit (bodies world me)) slot target args scope origin owner lo hi grain)
