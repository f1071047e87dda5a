-- What other parts tell at the start of an event, for the part of scopes; and where the part stands after a piece of one.
use Rattle.std.specs.Prelude.{◌≡◌, ℕ, ◌<◌, List, Some}
use Rattle.gr_lang.specs.declared.action.TaskId.{TaskId}
use Rattle.gr_lang.specs.States.{State}
use Rattle.gr_valid.specs.Valid.{IsValid}
use Rattle.gr_msg.specs.declared.message.ScopeId.{ScopeId}
use Rattle.gr_msg.specs.declared.message.Unit.TheVariants as unit
use Rattle.gr_machine.specs.Runs.{first_unit}
use Rattle.gr_stands.specs.Worlds.{Given, World, bodies}
use Rattle.gr_stands_made.specs.Rows.{IsSoundChunk}
use Rattle.gr_scopes.specs.Trees.{Names, tree_of, NamesGrow}
use Rattle.gr_scopes.specs.Scopes.{ScopesStand}
use Rattle.gr_scopes_stays.specs.Stays.{BatchIsApart}
use Rattle.gr_scopes_finished.specs.Counted.{IndicesTell}
use Rattle.gr_scopes_tells.specs.Told.{CountsFit}
use Rattle.gr_scopes_runs.specs.Leading.{IsInLoop}
use Rattle.gr_scopes_serves.specs.Serving.{MasterFits}

-- A fact of the part of work, of a chunk that comes next at a core: it may be taken up, and its scope is that of its loop.
abbrev pub ChunksTell : Given → Names → World → State → ℕ → Type 0
ChunksTell given names world state me =
    (target : ℕ) (args : List ℕ) (scope : ScopeId) (origin : ℕ) (owner : TaskId) (lo hi grain : ℕ)
    → first_unit (bodies world me) ≡ Some (unit.Chunk target args scope origin owner lo hi grain)
    → IsSoundChunk given target args lo hi grain × IsInLoop names state owner scope

-- The plain state is valid, as each that a history leads to. Of the part of bounds: counts and masters have room. Of work: what isn't begun is counted, and the
-- next chunk may be taken up. Of batches: the calls of one are in slots of their own.
pub record OthersTell (given : Given) (names : Names) (world : World) (state : State) (me : ℕ) : Type 0 where
  pub valid : IsValid given.program state
  pub counts : CountsFit world
  pub masters : (scope : ScopeId) → MasterFits world me scope
  pub indices : IndicesTell given names world state
  pub chunks : ChunksTell given names world state me
  pub batches : (batch : ℕ) → BatchIsApart world me batch

-- With names that have grown from these the part of scopes stands. So a scope that has been opened has a name, that which its slot says.
pub record GrownStand (given : Given) (names : Names) (world : World) (state : State) : Type 0 where
  pub more : Names
  pub grown : NamesGrow names more
  pub stands : ScopesStand given more world (tree_of state)

-- The part of scopes, whatever the names are.
pub record ScopesHold (given : Given) (world : World) (state : State) : Type 0 where
  pub names : Names
  pub stands : ScopesStand given names world (tree_of state)

-- So it is at the start of an event, where the other parts tell that of each core.
pub record ScopesStart (given : Given) (world : World) (state : State) : Type 0 where
  pub hold : ScopesHold given world state
  pub told : (core : ℕ) → core < given.setup.cores → OthersTell given hold.names world state core
