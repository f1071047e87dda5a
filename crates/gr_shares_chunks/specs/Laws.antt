-- The law of chunks that come next.
use Rattle.std.specs.Prelude.{◌≡◌, ℕ, ◌<◌, List, Some}
use Rattle.gr_lang.specs.declared.action.TaskId.{TaskId}
use Rattle.gr_lang.specs.States.{State}
use Rattle.gr_msg.specs.declared.message.ScopeId.{ScopeId}
use Rattle.gr_msg.specs.declared.message.Unit.TheVariants as unit
use Rattle.gr_machine.specs.Runs.{first_unit}
use Rattle.gr_stands.specs.Worlds.{Given, World, bodies}
use Rattle.gr_stands_made.specs.Rows.{IsSoundChunk}
use Rattle.gr_scopes.specs.Trees.{Names}
use Rattle.gr_scopes_runs.specs.Leading.{IsInLoop}
use Rattle.gr_shares.specs.Loops.{loops_of}
use Rattle.gr_shares.specs.Shares.{SharesHold}

-- A chunk that comes next at a core may be taken up, and its scope is that of the loop at which its owner waits.
abbrev pub ChunksAreTold : Type 0
ChunksAreTold =
    (given : Given) (names : Names) (world : World) (state : State) (me : ℕ) → SharesHold given names world (loops_of state) → me < given.setup.cores
    → (target : ℕ) (args : List ℕ) (scope : ScopeId) (origin : ℕ) (owner : TaskId) (lo hi grain : ℕ)
    → first_unit (bodies world me) ≡ Some (unit.Chunk target args scope origin owner lo hi grain)
    → IsSoundChunk given target args lo hi grain × IsInLoop names state owner scope
