-- What messages of turns need of other parts, and where the words of vectors stand behind an event.
use Rattle.std.specs.Prelude.{◌≡◌, ℕ, ◌+◌, ◌<◌, ◌==◌, ◌^◌, if◌then◌else◌, List, ◌∷◌, length, Option, Some, None}
use Rattle.gr_lang.specs.declared.action.WaitingCall.{WaitingCall}
use Rattle.gr_msg.specs.declared.message.Msg.{Msg}
use Rattle.gr_msg.specs.declared.message.Msg.TheVariants as msg
use Rattle.gr_vector.specs.declared.ends.Ends.{Ends}
use Rattle.gr_vector.specs.declared.kind.Kind.TheVariants as kind
use Rattle.gr_vector.specs.Groups.{calls_of}
use Rattle.gr_vector.specs.Plans.{ends_after}
use Rattle.gr_machine.specs.States.{Turn, Body}
use Rattle.gr_machine.specs.Outcomes.{Outcome}
use Rattle.gr_lines.specs.Lines.{vector_in}

-- The message asks for a turn of this vector, grants it or ends it.
abbrev pub IsToken : ℕ → Msg → Type 0
IsToken number (msg.Turn vector) = vector ≡ number
IsToken number (msg.Grant vector head tail) = vector ≡ number
IsToken number (msg.Done vector head tail) = vector ≡ number
IsToken number _ = ⊥

-- A fact of the part of bounds: where the words stand so, the words that the core's oldest group pushes have positions that fit a word.
abbrev pub PushesFit : Body → ℕ → Ends → Type 0
PushesFit body number ends =
    (calls : List WaitingCall) (more : List (List WaitingCall)) → (vector_in (body.vectors.vectors number)).groups ≡ calls ∷ more
    → ends.tail + length (calls_of kind.Push calls) < 2 ^ 64

-- It is needed where the message grants the turn.
abbrev pub GrantFits : Body → ℕ → Ends → Msg → Type 0
GrantFits body number ends (msg.Grant vector head tail) = PushesFit body number ends
GrantFits body number ends _ = Unit

-- Something is made.
pub record IsMade (made : Option Outcome) : Type 0 where
  pub outcome : Outcome
  pub is : made ≡ Some outcome

-- Where the words stand once a turn of which nothing is left has ended: where its calls leave them.
abbrev pub ends_behind : Option Turn → Ends → Ends
ends_behind None ends = ends
ends_behind (Some turn) ends = if turn.left == 0 then ends_after turn.calls turn.ends else ends
