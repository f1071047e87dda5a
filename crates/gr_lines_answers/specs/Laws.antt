-- The laws of the calls of a turn.
use Rattle.std.specs.Prelude.{◌≡◌, ℕ, List, Some}
use Rattle.gr_vector.specs.Plans.{taken_by}
use Rattle.gr_vector.specs.Laws.{replies, replies_from}
use Rattle.gr_machine.specs.States.{Vector, Turn, Body}
use Rattle.gr_machine.specs.TurnServes.{turn_replies}
use Rattle.gr_stands.specs.Worlds.{Given}
use Rattle.gr_stands_turns.specs.Turning.{AreAnswered}
use Rattle.gr_lines.specs.Waiting.{IsGroup, HasLines}

-- A turn is that of a group.
abbrev pub TurnsAreOfGroups : Type 0
TurnsAreOfGroups =
    (given : Given) (me number : ℕ) (body : Body) (vector : Vector) (turn : Turn)
    → HasLines given me body → body.vectors.vectors number ≡ Some vector → vector.turn ≡ Some turn → IsGroup turn.calls

-- Where the plain memory replies the same to its calls, one after another, each call has its reply: its task waits for the turn in a slot of its own.
abbrev pub CallsAreAnswered : Type 0
CallsAreAnswered =
    (given : Given) (me number : ℕ) (body : Body) (vector : Vector) (turn : Turn) (words : List ℕ)
    → HasLines given me body → body.vectors.vectors number ≡ Some vector → vector.turn ≡ Some turn
    → replies_from turn.answers (taken_by turn.calls turn.ends) ≡ replies turn.calls words → AreAnswered body number words (turn_replies turn)
