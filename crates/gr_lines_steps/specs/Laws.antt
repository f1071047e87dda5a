-- The laws of pieces of steps, for calls that wait on vectors and for whose turn it is.
use Rattle.std.specs.Prelude.{◌≡◌, ℕ, List, [], ◌∷◌, Some}
use Rattle.gr_view.specs.Places.{put}
use Rattle.gr_msg.specs.declared.message.Msg.{Msg}
use Rattle.gr_vector.specs.declared.ends.Ends.{Ends}
use Rattle.gr_vector.specs.Plans.{taken_by}
use Rattle.gr_vector.specs.Laws.{replies, replies_from}
use Rattle.gr_machine.specs.States.{Vector, Turn}
use Rattle.gr_machine.specs.TurnServes.{turn_replies}
use Rattle.gr_machine.specs.Closes.{closes}
use Rattle.gr_machine.specs.Events.{gives, asks}
use Rattle.gr_machine.specs.GlobalRuns.{opening_world}
use Rattle.gr_machine.specs.Nets.{world_in}
use Rattle.gr_stands.specs.Worlds.{Given, machine_in, World, bodies, Acts}
use Rattle.gr_stands_calls.specs.Acting.{letter, IsFirstLetter}
use Rattle.gr_stands_chains.specs.Chains.{SendersStand}
use Rattle.gr_stands_turns.specs.Turning.{AreAnswered}
use Rattle.gr_stands_steps.specs.Telling.{message_outcome}
use Rattle.gr_stands_made.specs.Pieces.{ran_at, ended_at}
use Rattle.gr_stands_made.specs.Keeping.{KeptByPieces}
use Rattle.gr_lines.specs.Waiting.{LinesStand}
use Rattle.gr_lines_others.specs.Others.{HeapIsNoVector}
use Rattle.gr_lines_turns.specs.Tokens.{TurnsStand}
use Rattle.gr_lines_steps.specs.Behind.{ends_settled, GrantTells, LinesAndTurnsStand, LinesAndTurnsStart}

-- ---- calls that wait on vectors

abbrev pub PiecesKeepLines : Type 0
PiecesKeepLines =
    (given : Given) → HeapIsNoVector given
    → KeptByPieces given (λ sent world state. LinesStand given world) (λ me sent world state. LinesStand given world) (λ sent world state. LinesStand given world)

-- ---- whose turn it is

-- What a Run does first.
abbrev pub RunsKeepTurns : Type 0
RunsKeepTurns =
    (given : Given) (before later : World) (me : ℕ) (slots : List ℕ) (ends : ℕ → Ends)
    → Acts given.setup.cores before later me [] (ran_at given before me slots) → TurnsStand given before ends → TurnsStand given later ends

-- What is found to do with a message, and what isn't.
abbrev pub ServesKeepTurns : Type 0
ServesKeepTurns =
    (given : Given) (before later : World) (me from : ℕ) (message : Msg) (ends : ℕ → Ends)
    → Acts given.setup.cores before later me (letter from message ∷ []) (message_outcome given before me from message)
    → LinesStand given before → GrantTells given before me message → TurnsStand given before ends → TurnsStand given later ends

-- The end of a turn behind a message, if there is one.
abbrev pub SettlesKeepTurns : Type 0
SettlesKeepTurns =
    (given : Given) (before later : World) (me : ℕ) (message : Msg) (ends : ℕ → Ends)
    → Acts given.setup.cores before later me [] (ended_at given before me message)
    → LinesStand given before → TurnsStand given before ends → TurnsStand given later (ends_settled (bodies before me) message ends)

abbrev pub GivesKeepTurns : Type 0
GivesKeepTurns =
    (given : Given) (before later : World) (me : ℕ) (ends : ℕ → Ends)
    → Acts given.setup.cores before later me [] (gives (bodies before me)) → TurnsStand given before ends → TurnsStand given later ends

abbrev pub CloseKeepsTurns : Type 0
CloseKeepsTurns =
    (given : Given) (before later : World) (me object : ℕ) (ends : ℕ → Ends)
    → Acts given.setup.cores before later me [] (closes (machine_in given) (bodies before me) object)
    → LinesStand given before → TurnsStand given before ends → TurnsStand given later ends

abbrev pub AsksKeepTurns : Type 0
AsksKeepTurns =
    (given : Given) (before later : World) (me victim : ℕ) (ends : ℕ → Ends)
    → Acts given.setup.cores before later me [] (asks victim (bodies before me)) → TurnsStand given before ends → TurnsStand given later ends

-- ---- both

-- Before the first step the machine has the part.
abbrev pub OpeningsHaveBoth : Type 0
OpeningsHaveBoth = (given : Given) (slot : ℕ) → LinesAndTurnsStand given (world_in (opening_world (machine_in given) slot))

-- Each piece of a step keeps it, wherever the words stand then.
abbrev pub PiecesKeepBoth : Type 0
PiecesKeepBoth =
    (given : Given) → HeapIsNoVector given
    → KeptByPieces given (λ sent world state. LinesAndTurnsStart given world) (λ me sent world state. LinesAndTurnsStand given world)
    (λ sent world state. LinesAndTurnsStand given world)

-- ---- the end of a turn

-- Behind a message the calls of a turn of its core have their replies, where these are what the plain memory replies to the calls one after another.
abbrev pub EndsAreAnswered : Type 0
EndsAreAnswered =
    (given : Given) (world between : World) (me from number : ℕ) (message : Msg) (vector : Vector) (turn : Turn) (words : List ℕ)
    → SendersStand given world → IsFirstLetter given world me from message → LinesStand given world
    → bodies between ≡ put (bodies world) me (message_outcome given world me from message).body
    → (message_outcome given world me from message).body.vectors.vectors number ≡ Some vector → vector.turn ≡ Some turn
    → replies_from turn.answers (taken_by turn.calls turn.ends) ≡ replies turn.calls words
    → AreAnswered (bodies between me) number words (turn_replies turn)
