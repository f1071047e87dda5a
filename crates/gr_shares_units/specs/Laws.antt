-- The laws of units that come to be and are taken up, and of outcomes that leave all chunks.
use Rattle.std.specs.Prelude.{◌≡◌, ℕ, ◌<◌, List, [], length, Some}
use Rattle.gr_lang.specs.declared.action.Action.TheVariants as action
use Rattle.gr_lang.specs.declared.action.Entry.{Entry}
use Rattle.gr_lang.specs.declared.action.Entry.TheVariants as entry
use Rattle.gr_lang.specs.declared.action.TaskId.{TaskId}
use Rattle.gr_lang.specs.States.{State}
use Rattle.gr_lang.specs.Steps.{step}
use Rattle.gr_msg.specs.declared.message.ScopeId.{ScopeId}
use Rattle.gr_msg.specs.declared.message.Unit.TheVariants as unit
use Rattle.gr_machine.specs.States.{Letter, Suspended, Body}
use Rattle.gr_machine.specs.Outcomes.{Outcome}
use Rattle.gr_machine.specs.Runs.{first_unit, without_unit, starts, splits, begins}
use Rattle.gr_machine.specs.ScopeRuns.{loops_in}
use Rattle.gr_stands.specs.Worlds.{Given, machine_in, World, bodies}
use Rattle.gr_stands.specs.Actions.{ActionFits}
use Rattle.gr_stands.specs.Calls.{StandsAt}
use Rattle.gr_scopes.specs.Trees.{Names, NamesGrow}
use Rattle.gr_shares.specs.Loops.{Loops, LoopsStand, loops_of}
use Rattle.gr_shares.specs.Shares.{SharesHold}
use Rattle.gr_shares_steals.specs.Sharing.{KeepsShares}
use Rattle.gr_shares_loops.specs.Changes.{IsOfNoLoop, ScopesAreThere}
use Rattle.gr_shares_units.specs.Leaving.{LeavesShares, LeavesLeft}

abbrev pub SharesStay : Type 0
SharesStay =
    (given : Given) (names more : Names) (before after : Loops) (world : World) (me : ℕ) (got : List Letter) (outcome : Outcome)
    → SharesHold given names world before → me < given.setup.cores → LeavesShares (bodies world me) got outcome → LeavesLeft names more before after
    → KeepsShares given world me got outcome more after

-- What an entry leaves: any by which no loop is opened or passed and no index begins, and the passing of a scope.
abbrev pub OthersShare : Type 0
OthersShare =
    (given : Given) (names more : Names) (before after : State) (what : Entry) → LoopsStand (loops_of before) → NamesGrow names more → IsOfNoLoop what
    → step given.program given.setup.cores given.setup.steps before what ≡ Some after → LeavesLeft names more (loops_of before) (loops_of after)

abbrev pub PassesShare : Type 0
PassesShare =
    (given : Given) (names more : Names) (before after : State) (id : TaskId) → LoopsStand (loops_of before) → NamesGrow names more
    → step given.program given.setup.cores given.setup.steps before (entry.Pass id) ≡ Some after → LeavesLeft names more (loops_of before) (loops_of after)

-- Run: a single task starts.
abbrev pub SinglesShare : Type 0
SinglesShare =
    (given : Given) (world : World) (me slot target : ℕ) (args : List ℕ) (scope : ScopeId) (origin : ℕ) (id : TaskId)
    → first_unit (bodies world me) ≡ Some (unit.Single target args scope origin id)
    → LeavesShares (bodies world me) [] (starts (machine_in given) (without_unit (bodies world me)) slot target args scope origin id)

-- Run: a task opens a loop over some indices, under a scope that is new. All of them are one chunk.
abbrev pub LoopsShare : Type 0
LoopsShare =
    (given : Given) (names more : Names) (world : World) (before after : State) (me slot : ℕ) (task : Suspended) (body : Body) (scope : ScopeId) (lo hi grain target : ℕ) (args : List ℕ)
    → SharesHold given names world (loops_of before) → me < given.setup.cores → body.work ≡ (bodies world me).work → body.steals ≡ (bodies world me).steals
    → StandsAt before task → task.action ≡ action.Loop lo hi grain target args → ActionFits (machine_in given) task.action → lo < hi → ScopesAreThere before
    → NamesGrow names more → more (length before.scopes) ≡ Some scope
    → step given.program given.setup.cores given.setup.steps before (entry.Loop task.id lo hi grain target args) ≡ Some after
    → KeepsShares given world me [] (loops_in me body slot task lo hi grain target args scope) more (loops_of after)

-- Run: a chunk is split, and its upper halves are offered to others.
abbrev pub SplitsShare : Type 0
SplitsShare =
    (given : Given) (names : Names) (loops : Loops) (world : World) (me target : ℕ) (args : List ℕ) (scope : ScopeId) (origin : ℕ) (owner : TaskId) (lo hi grain : ℕ)
    → SharesHold given names world loops → me < given.setup.cores → first_unit (bodies world me) ≡ Some (unit.Chunk target args scope origin owner lo hi grain)
    → KeepsShares given world me [] (splits (without_unit (bodies world me)) (unit.Chunk target args scope origin owner lo hi grain)) names loops

-- Run: the first index of a chunk begins, and the rest stays.
abbrev pub IndicesShare : Type 0
IndicesShare =
    (given : Given) (names : Names) (world : World) (before after : State) (me slot target : ℕ) (args : List ℕ) (scope : ScopeId) (origin : ℕ) (owner : TaskId) (lo hi grain : ℕ) (kid : TaskId)
    → SharesHold given names world (loops_of before) → me < given.setup.cores → first_unit (bodies world me) ≡ Some (unit.Chunk target args scope origin owner lo hi grain)
    → step given.program given.setup.cores given.setup.steps before (entry.Begin owner lo kid) ≡ Some after
    → KeepsShares given world me [] (begins (machine_in given) me (without_unit (bodies world me)) slot target args scope origin owner lo hi grain) names (loops_of after)
