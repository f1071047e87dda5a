-- The laws of the part of scopes in a run: it opens, and each piece of an event keeps it.
use Rattle.std.specs.Prelude.{◌≡◌, ℕ, ◌<◌, List, [], ◌∷◌, Some}
use Rattle.gr_lang.specs.States.{State, opening_state}
use Rattle.gr_msg.specs.declared.message.Msg.{Msg}
use Rattle.gr_machine.specs.States.{Suspended}
use Rattle.gr_machine.specs.Histories.{Sent}
use Rattle.gr_machine.specs.Closes.{closes}
use Rattle.gr_machine.specs.Events.{gives, asks}
use Rattle.gr_machine.specs.GlobalRuns.{opening_world}
use Rattle.gr_machine.specs.Nets.{world_in}
use Rattle.gr_stands.specs.Worlds.{Given, machine_in, World, bodies, Moves}
use Rattle.gr_stands.specs.Stands.{IsSound}
use Rattle.gr_stands.specs.Calls.{is_told}
use Rattle.gr_stands_calls.specs.Acting.{letter, IsFirstLetter}
use Rattle.gr_stands_steps.specs.Telling.{message_outcome}
use Rattle.gr_stands_made.specs.Pieces.{Piece, Starts, RunStarts, EndStarts, ran_at, ended_at}
use Rattle.gr_stands_made.specs.Keeping.{KeptByPieces}
use Rattle.gr_scopes.specs.Trees.{Names, Tree, tree_of}
use Rattle.gr_scopes.specs.Scopes.{IsCall, ScopesStand}
use Rattle.gr_scopes_steps.specs.Stepping.{OthersTell, GrownStand, ScopesHold, ScopesStart}

-- What a Run does first. A finish or a loop that is opened gets a name.
abbrev pub RunPiecesKeepScopes : Type 0
RunPiecesKeepScopes =
    (given : Given) (sent : Sent) (names : Names) (before later : World) (state next : State) (me : ℕ) (slots : List ℕ)
    → IsSound given → RunStarts given sent before state me slots → Piece given sent before later state next me [] (ran_at given before me slots)
    → OthersTell given names before state me → ScopesStand given names before (tree_of state) → GrownStand given names later next

-- What a Serve does first with its message.
abbrev pub ServePiecesKeepScopes : Type 0
ServePiecesKeepScopes =
    (given : Given) (sent : Sent) (names : Names) (before later : World) (state next : State) (me from : ℕ) (message : Msg)
    → Starts given sent before state me → IsFirstLetter given before me from message
    → Piece given sent before later state next me (letter from message ∷ []) (message_outcome given before me from message)
    → OthersTell given names before state me → ScopesStand given names before (tree_of state) → GrownStand given names later next

-- The end of a turn.
abbrev pub EndPiecesKeepScopes : Type 0
EndPiecesKeepScopes =
    (given : Given) (sent : Sent) (names : Names) (before later : World) (state next : State) (me : ℕ) (message : Msg)
    → EndStarts before state me message → Piece given sent before later state next me [] (ended_at given before me message)
    → ScopesStand given names before (tree_of state) → GrownStand given names later next

-- Gifts.
abbrev pub GiftPiecesKeepScopes : Type 0
GiftPiecesKeepScopes =
    (given : Given) (sent : Sent) (names : Names) (before later : World) (state : State) (me : ℕ)
    → Piece given sent before later state state me [] (gives (bodies before me))
    → ScopesStand given names before (tree_of state) → GrownStand given names later state

abbrev pub ClosePiecesKeepScopes : Type 0
ClosePiecesKeepScopes =
    (given : Given) (sent : Sent) (names : Names) (before later : World) (state next : State) (me object : ℕ)
    → Starts given sent before state me → Piece given sent before later state next me [] (closes (machine_in given) (bodies before me) object)
    → ScopesStand given names before (tree_of state) → GrownStand given names later next

abbrev pub StealPiecesKeepScopes : Type 0
StealPiecesKeepScopes =
    (given : Given) (sent : Sent) (names : Names) (before later : World) (state : State) (me victim : ℕ)
    → Piece given sent before later state state me [] (asks victim (bodies before me))
    → ScopesStand given names before (tree_of state) → GrownStand given names later state

-- A Ship and a Take.
abbrev pub MovePiecesKeepScopes : Type 0
MovePiecesKeepScopes =
    (given : Given) (names : Names) (before later : World) (state : State)
    → Moves given.setup.cores before later → ScopesStand given names before (tree_of state) → GrownStand given names later state

-- Before the first step the machine has the part, whatever the names are; and each piece keeps it.
abbrev pub OpeningsHoldScopes : Type 0
OpeningsHoldScopes =
    (given : Given) (slot : ℕ) → IsSound given → slot < given.slots
    → ScopesHold given (world_in (opening_world (machine_in given) slot)) (opening_state given.program given.setup.steps)

abbrev pub PiecesKeepScopes : Type 0
PiecesKeepScopes =
    (given : Given) → IsSound given
    → KeptByPieces given (λ sent world state. ScopesStart given world state) (λ me sent world state. ScopesHold given world state)
    (λ sent world state. ScopesHold given world state)

-- A task of whose call a message may tell makes a call next.
abbrev pub AskersMakeCalls : Type 0
AskersMakeCalls =
    (given : Given) (names : Names) (world : World) (tree : Tree) (core slot : ℕ) (task : Suspended)
    → ScopesStand given names world tree → (bodies world core).tasks.slots slot ≡ Some task → is_told task.waits ≡ 1 → IsCall task.action
