-- The laws of outcomes that leave the scopes of their core: they keep the part of scopes.
use Rattle.std.specs.Prelude.{◌≡◌, ℕ, ◌<◌, false, nat_lt, List, [], ◌∷◌, Option, Some}
use Rattle.gr_lang.specs.declared.action.Action.TheVariants as action
use Rattle.gr_lang.specs.declared.action.How.{How}
use Rattle.gr_lang.specs.declared.action.Op.{Op}
use Rattle.gr_lang.specs.declared.action.TrapKind.{TrapKind}
use Rattle.gr_lang.specs.States.{State}
use Rattle.gr_lang.specs.Steps.{has_core}
use Rattle.gr_msg.specs.declared.message.Msg.{Msg}
use Rattle.gr_msg.specs.declared.message.Msg.TheVariants as msg
use Rattle.gr_vector.specs.declared.ends.Ends.{Ends}
use Rattle.gr_machine.specs.States.{Letter, Suspended, Turn, Vector}
use Rattle.gr_machine.specs.Outcomes.{Outcome}
use Rattle.gr_machine.specs.Runs.{acts, without_ready}
use Rattle.gr_machine.specs.Serves.{serves}
use Rattle.gr_machine.specs.Closes.{closes}
use Rattle.gr_machine.specs.TurnServes.{turn_finished}
use Rattle.gr_stands.specs.Worlds.{Given, machine_in, World, bodies}
use Rattle.gr_stands.specs.Actions.{CallFits}
use Rattle.gr_stands_calls.specs.Acting.{IsFirst, letter, IsFirstLetter}
use Rattle.gr_stands_runs.specs.Telling.{VectorsStand}
use Rattle.gr_stands_closes.specs.Closing.{CloseTells}
use Rattle.gr_stands_turns.specs.Turning.{TurnTells}
use Rattle.gr_scopes.specs.Trees.{Names, tree_of, with_empty}
use Rattle.gr_scopes_opens.specs.Keeping.{KeepsScopes, StandsWith}
use Rattle.gr_scopes_stays.specs.Stays.{ScopesStay, IsOfOneCall, BatchIsApart}

-- Such an outcome keeps the part.
abbrev pub ScopesStayPut : Type 0
ScopesStayPut =
    (given : Given) (names : Names) (world : World) (state : State) (me : ℕ) (got : List Letter) (outcome : Outcome)
    → StandsWith given names world state → me < given.setup.cores → ScopesStay given names (tree_of state) (bodies world me) me got outcome
    → KeepsScopes given world me got outcome names (tree_of state)

-- Run: a ready task makes a call, which is asked for, or joins others.
abbrev pub CallsKeepScopes : Type 0
CallsKeepScopes =
    (given : Given) (names : Names) (world : World) (state : State) (me slot : ℕ) (more : List ℕ) (task : Suspended) (call : Op)
    → StandsWith given names world state → me < given.setup.cores → IsFirst world me slot more task → VectorsStand given world
    → task.action ≡ action.Call call → CallFits (machine_in given) call
    → KeepsScopes given world me [] (acts (machine_in given) me (without_ready (bodies world me)) slot task task.action) names (tree_of state)

-- Run: a ready task is trapped by its action.
abbrev pub TrapsKeepScopes : Type 0
TrapsKeepScopes =
    (given : Given) (names : Names) (world : World) (state : State) (me slot : ℕ) (more : List ℕ) (task : Suspended) (kind : TrapKind)
    → StandsWith given names world state → me < given.setup.cores → IsFirst world me slot more task → task.action ≡ action.Trap kind
    → KeepsScopes given world me [] (acts (machine_in given) me (without_ready (bodies world me)) slot task task.action) names (tree_of state)

-- Run: a ready task is trapped by a spawn at a core that there isn't.
abbrev pub FarSpawnsKeepScopes : Type 0
FarSpawnsKeepScopes =
    (given : Given) (names : Names) (world : World) (state : State) (me slot : ℕ) (more : List ℕ) (task : Suspended) (way : How) (target : ℕ) (args : List ℕ)
    → StandsWith given names world state → me < given.setup.cores → IsFirst world me slot more task
    → task.action ≡ action.Spawn way target args → has_core given.setup.cores way ≡ false
    → KeepsScopes given world me [] (acts (machine_in given) me (without_ready (bodies world me)) slot task task.action) names (tree_of state)

-- Run: a loop over nothing is passed at once.
abbrev pub EmptyLoopsKeepScopes : Type 0
EmptyLoopsKeepScopes =
    (given : Given) (names : Names) (world : World) (state : State) (me slot : ℕ) (more : List ℕ) (task : Suspended) (lo hi grain target : ℕ) (args : List ℕ)
    → StandsWith given names world state → me < given.setup.cores → IsFirst world me slot more task
    → task.action ≡ action.Loop lo hi grain target args → nat_lt lo hi ≡ false
    → KeepsScopes given world me [] (acts (machine_in given) me (without_ready (bodies world me)) slot task task.action) names (with_empty (tree_of state))

-- Serve: messages of calls, batches and turns, and questions for work, where they find something to act on.
abbrev pub MessagesKeepScopes : Type 0
MessagesKeepScopes =
    (given : Given) (names : Names) (world : World) (state : State) (me from : ℕ) (message : Msg) (outcome : Outcome)
    → StandsWith given names world state → IsFirstLetter given world me from message → IsOfOneCall message
    → serves (machine_in given) me (bodies world me) from message ≡ Some outcome
    → KeepsScopes given world me (letter from message ∷ []) outcome names (tree_of state)

-- Serve: the calls of a batch get their replies.
abbrev pub BatchRepliesKeepScopes : Type 0
BatchRepliesKeepScopes =
    (given : Given) (names : Names) (world : World) (state : State) (me from batch : ℕ) (before : Option ℕ) (outcome : Outcome)
    → StandsWith given names world state → IsFirstLetter given world me from (msg.BatchReply batch before) → BatchIsApart world me batch
    → serves (machine_in given) me (bodies world me) from (msg.BatchReply batch before) ≡ Some outcome
    → KeepsScopes given world me (letter from (msg.BatchReply batch before) ∷ []) outcome names (tree_of state)

-- Close: the calls that wait on an object go off.
abbrev pub ClosesKeepScopes : Type 0
ClosesKeepScopes =
    (given : Given) (names : Names) (world : World) (state : State) (me object : ℕ)
    → StandsWith given names world state → me < given.setup.cores → CloseTells world me object
    → KeepsScopes given world me [] (closes (machine_in given) (bodies world me) object) names (tree_of state)

-- Serve: a turn of which nothing is left is finished.
abbrev pub TurnEndsKeepScopes : Type 0
TurnEndsKeepScopes =
    (given : Given) (names : Names) (world : World) (state : State) (me number : ℕ) (vector : Vector) (turn : Turn) (ends : Ends)
    → StandsWith given names world state → me < given.setup.cores → TurnTells world state me number turn
    → KeepsScopes given world me [] (turn_finished (machine_in given) (bodies world me) number vector turn ends) names (tree_of state)
