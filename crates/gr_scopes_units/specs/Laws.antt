-- The laws of units of work: they come, are given away, are split, and their tasks start; each event keeps the part of scopes.
use Rattle.std.specs.Prelude.{◌≡◌, ℕ, ◌<◌, List, [], ◌∷◌, Some, None}
use Rattle.gr_lang.specs.declared.action.TaskId.{TaskId}
use Rattle.gr_lang.specs.States.{State}
use Rattle.gr_msg.specs.declared.message.ScopeId.{ScopeId}
use Rattle.gr_msg.specs.declared.message.Msg.TheVariants as msg
use Rattle.gr_msg.specs.declared.message.Unit.{Unit as WorkUnit}
use Rattle.gr_msg.specs.declared.message.Unit.TheVariants as unit
use Rattle.gr_machine.specs.Outcomes.{Outcome}
use Rattle.gr_machine.specs.Events.{gives, asks}
use Rattle.gr_machine.specs.Runs.{first_unit, without_unit, starts, begins, splits}
use Rattle.gr_machine.specs.Serves.{serves}
use Rattle.gr_machine.specs.ScopeServes.{spawned}
use Rattle.gr_machine.specs.Slots.{own_id}
use Rattle.gr_stands.specs.Worlds.{Given, machine_in, World, bodies}
use Rattle.gr_stands_calls.specs.Acting.{letter, IsFirstLetter}
use Rattle.gr_scopes.specs.Trees.{Names, tree_of, with_task}
use Rattle.gr_scopes_opens.specs.Keeping.{KeepsScopes, StandsWith}

-- Serve: a unit comes.
abbrev pub SpawnsArrive : Type 0
SpawnsArrive =
    (given : Given) (names : Names) (world : World) (state : State) (me from : ℕ) (work : WorkUnit)
    → StandsWith given names world state → IsFirstLetter given world me from (msg.Spawn work)
    → KeepsScopes given world me (letter from (msg.Spawn work) ∷ []) (spawned (bodies world me) work) names (tree_of state)

-- Serve: a unit comes that was asked for.
abbrev pub GiftsArrive : Type 0
GiftsArrive =
    (given : Given) (names : Names) (world : World) (state : State) (me from : ℕ) (work : WorkUnit) (outcome : Outcome)
    → StandsWith given names world state → IsFirstLetter given world me from (msg.StealGive work)
    → serves (machine_in given) me (bodies world me) from (msg.StealGive work) ≡ Some outcome
    → KeepsScopes given world me (letter from (msg.StealGive work) ∷ []) outcome names (tree_of state)

-- At the end of a Run and a Serve units are given to cores that wait for one.
abbrev pub GiftsGoOff : Type 0
GiftsGoOff =
    (given : Given) (names : Names) (world : World) (state : State) (me : ℕ)
    → StandsWith given names world state → me < given.setup.cores → KeepsScopes given world me [] (gives (bodies world me)) names (tree_of state)

-- Steal: another core is asked for a unit.
abbrev pub StealsGoOff : Type 0
StealsGoOff =
    (given : Given) (names : Names) (world : World) (state : State) (me victim : ℕ)
    → StandsWith given names world state → me < given.setup.cores → KeepsScopes given world me [] (asks victim (bodies world me)) names (tree_of state)

-- Run: a chunk is split.
abbrev pub ChunksSplit : Type 0
ChunksSplit =
    (given : Given) (names : Names) (world : World) (state : State) (me target : ℕ) (args : List ℕ) (scope : ScopeId) (origin : ℕ) (owner : TaskId) (lo hi grain : ℕ)
    → StandsWith given names world state → me < given.setup.cores
    → first_unit (bodies world me) ≡ Some (unit.Chunk target args scope origin owner lo hi grain) → lo < hi
    → KeepsScopes given world me [] (splits (without_unit (bodies world me)) (unit.Chunk target args scope origin owner lo hi grain)) names (tree_of state)

-- Run: a unit that is one task starts, in a slot that is free.
abbrev pub SinglesKeepScopes : Type 0
SinglesKeepScopes =
    (given : Given) (names : Names) (world : World) (state : State) (me slot target : ℕ) (args : List ℕ) (scope : ScopeId) (origin : ℕ) (id : TaskId)
    → StandsWith given names world state → me < given.setup.cores
    → first_unit (bodies world me) ≡ Some (unit.Single target args scope origin id) → (bodies world me).tasks.slots slot ≡ None → slot < given.slots
    → KeepsScopes given world me [] (starts (machine_in given) (without_unit (bodies world me)) slot target args scope origin id) names (tree_of state)

-- Run: the first index of a chunk begins as a new task in the loop's scope, in a slot that is free.
abbrev pub IndicesKeepScopes : Type 0
IndicesKeepScopes =
    (given : Given) (names : Names) (world : World) (state : State) (me slot target : ℕ) (args : List ℕ) (scope : ScopeId) (number origin : ℕ) (owner : TaskId) (lo hi grain : ℕ)
    → StandsWith given names world state → me < given.setup.cores → names number ≡ Some scope
    → first_unit (bodies world me) ≡ Some (unit.Chunk target args scope origin owner lo hi grain) → lo < hi
    → (bodies world me).tasks.slots slot ≡ None → slot < given.slots
    → KeepsScopes given world me [] (begins (machine_in given) me (without_unit (bodies world me)) slot target args scope origin owner lo hi grain)
    names (with_task (tree_of state) (own_id me (bodies world me)) number)
