-- The laws of the part of work in a run: it opens, each piece of an event keeps it, and it tells what a step needs.
use Rattle.std.specs.Prelude.{ℕ, ◌<◌, List, [], ◌∷◌}
use Rattle.gr_lang.specs.States.{State, opening_state}
use Rattle.gr_valid.specs.Valid.{IsValid}
use Rattle.gr_msg.specs.declared.message.Msg.{Msg}
use Rattle.gr_machine.specs.Closes.{closes}
use Rattle.gr_machine.specs.Events.{gives, asks}
use Rattle.gr_machine.specs.GlobalRuns.{opening_world}
use Rattle.gr_machine.specs.Histories.{Sent}
use Rattle.gr_machine.specs.Nets.{world_in}
use Rattle.gr_stands.specs.Worlds.{Given, machine_in, World, bodies, Moves}
use Rattle.gr_stands_calls.specs.Acting.{letter, IsFirstLetter}
use Rattle.gr_stands_steps.specs.Telling.{message_outcome}
use Rattle.gr_stands_made.specs.Pieces.{Piece, ran_at, ended_at, RunStarts, StealStarts}
use Rattle.gr_scopes.specs.Trees.{Names, tree_of, NamesGrow}
use Rattle.gr_scopes.specs.Scopes.{ScopesStand}
use Rattle.gr_scopes_finished.specs.Counted.{IndicesTell}
use Rattle.gr_shares_tells.specs.Telling.{WorkTells}
use Rattle.gr_shares_events.specs.Holding.{NamesGoOn}
use Rattle.gr_shares_steps.specs.Stepping.{WorkStands, WorkGoesOn}

abbrev pub OpeningsHaveWork : Type 0
OpeningsHaveWork =
    (given : Given) (names : Names) (slot : ℕ)
    → WorkStands given names (world_in (opening_world (machine_in given) slot)) (opening_state given.program given.setup.steps)

-- What a Run does first. A loop that is opened takes the name of its scope from the part of scopes.
abbrev pub RunPiecesKeepWork : Type 0
RunPiecesKeepWork =
    (given : Given) (sent : Sent) (names more : Names) (before later : World) (state next : State) (me : ℕ) (slots : List ℕ)
    → RunStarts given sent before state me slots → Piece given sent before later state next me [] (ran_at given before me slots)
    → IsValid given.program state → NamesGoOn names more later next
    → WorkStands given names before state → WorkGoesOn given more me later next

-- What a Serve does first with its message.
abbrev pub ServePiecesKeepWork : Type 0
ServePiecesKeepWork =
    (given : Given) (sent : Sent) (names more : Names) (before later : World) (state next : State) (me from : ℕ) (message : Msg)
    → IsFirstLetter given before me from message
    → Piece given sent before later state next me (letter from message ∷ []) (message_outcome given before me from message)
    → IsValid given.program state → NamesGrow names more
    → WorkStands given names before state → WorkGoesOn given more me later next

-- The end of a turn.
abbrev pub EndPiecesKeepWork : Type 0
EndPiecesKeepWork =
    (given : Given) (sent : Sent) (names more : Names) (before later : World) (state next : State) (me : ℕ) (message : Msg)
    → Piece given sent before later state next me [] (ended_at given before me message)
    → IsValid given.program state → NamesGrow names more
    → WorkGoesOn given names me before state → WorkGoesOn given more me later next

-- Gifts, after which no core has units for others while one waits at it.
abbrev pub GiftPiecesKeepWork : Type 0
GiftPiecesKeepWork =
    (given : Given) (sent : Sent) (names more : Names) (before later : World) (state : State) (me : ℕ)
    → Piece given sent before later state state me [] (gives (bodies before me)) → NamesGrow names more
    → WorkGoesOn given names me before state → WorkStands given more later state

abbrev pub ClosePiecesKeepWork : Type 0
ClosePiecesKeepWork =
    (given : Given) (sent : Sent) (names more : Names) (before later : World) (state next : State) (me object : ℕ)
    → Piece given sent before later state next me [] (closes (machine_in given) (bodies before me) object)
    → IsValid given.program state → NamesGrow names more
    → WorkStands given names before state → WorkStands given more later next

abbrev pub StealPiecesKeepWork : Type 0
StealPiecesKeepWork =
    (given : Given) (sent : Sent) (names more : Names) (before later : World) (state : State) (me victim : ℕ)
    → StealStarts given sent before state me victim → Piece given sent before later state state me [] (asks victim (bodies before me))
    → NamesGrow names more → WorkStands given names before state → WorkStands given more later state

-- A Ship and a Take.
abbrev pub MovePiecesKeepWork : Type 0
MovePiecesKeepWork =
    (given : Given) (names more : Names) (before later : World) (state : State)
    → Moves given.setup.cores before later → NamesGrow names more → WorkStands given names before state → WorkStands given more later state

-- The part of scopes tells what is needed of names.
abbrev pub ScopesNameOn : Type 0
ScopesNameOn =
    (given : Given) (names more : Names) (world : World) (state : State)
    → NamesGrow names more → ScopesStand given more world (tree_of state) → NamesGoOn names more world state

-- What steps need of the part of work, and what the part of scopes does.
abbrev pub WorkIsTold : Type 0
WorkIsTold =
    (given : Given) (names : Names) (world : World) (state : State) (me : ℕ)
    → me < given.setup.cores → WorkStands given names world state → WorkTells given world state me × IndicesTell given names world state
