-- Where the words of vectors stand behind a message, and what messages that come first need of the part of bounds.
use Rattle.std.specs.Prelude.{◌≡◌, ℕ, ◌+◌, ◌==◌, ◌^◌, nat_lt, if◌then◌else◌, true, List, ◌∷◌, length, Some, None}
use Rattle.gr_lang.specs.declared.action.WaitingCall.{WaitingCall}
use Rattle.gr_msg.specs.declared.message.Msg.{Msg}
use Rattle.gr_msg.specs.declared.message.Msg.TheVariants as msg
use Rattle.gr_vector.specs.declared.ends.Ends.{Ends}
use Rattle.gr_vector.specs.declared.kind.Kind.TheVariants as kind
use Rattle.gr_vector.specs.Groups.{calls_of}
use Rattle.gr_machine.specs.States.{Vector, Body}
use Rattle.gr_stands.specs.Worlds.{Given, World, bodies}
use Rattle.gr_stands_calls.specs.Acting.{IsFirstLetter}
use Rattle.gr_lines.specs.Lines.{vector_in}
use Rattle.gr_lines.specs.Waiting.{LinesStand}
use Rattle.gr_lines_turns.specs.Tokens.{TurnsStand}
use Rattle.gr_lines_tokens.specs.Granting.{ends_behind}

-- A turn of one vector may have ended.
abbrev pub ends_of_one : Body → ℕ → (ℕ → Ends) → ℕ → Ends
ends_of_one body vector ends number = if vector == number then ends_behind (vector_in (body.vectors.vectors number)).turn (ends number) else ends number

-- Behind a Grant and an ElemAck a turn of their vector may end.
abbrev pub ends_settled : Body → Msg → (ℕ → Ends) → ℕ → Ends
ends_settled body (msg.Grant vector head tail) ends = ends_of_one body vector ends
ends_settled body (msg.ElemAck vector position got) ends = ends_of_one body vector ends
ends_settled body _ ends = ends

-- A fact of the part of bounds: where a Grant comes first to a core that has no turn of its vector, what the oldest group there pushes has positions that fit a
-- word.
abbrev pub GrantTells : Given → World → ℕ → Msg → Type 0
GrantTells given world me (msg.Grant number head tail) =
    (vector : Vector) (calls : List WaitingCall) (more : List (List WaitingCall))
    → (bodies world me).vectors.vectors number ≡ Some vector → vector.turn ≡ None → vector.groups ≡ calls ∷ more
    → nat_lt (tail + length (calls_of kind.Push calls)) (2 ^ 64) ≡ true
GrantTells given world me _ = Unit

-- So it is of each message that comes first.
abbrev pub GrantsTell : Given → World → ℕ → Type 0
GrantsTell given world me = (from : ℕ) (message : Msg) → IsFirstLetter given world me from message → GrantTells given world me message

-- The whole part: calls that wait on vectors are in order, and whose turn it is of each vector, wherever its words stand.
pub record LinesAndTurnsStand (given : Given) (world : World) : Type 0 where
  pub lines : LinesStand given world
  pub ends : ℕ → Ends
  pub turns : TurnsStand given world ends

-- So it is at the start of an event, where the part of bounds tells that of each core.
pub record LinesAndTurnsStart (given : Given) (world : World) : Type 0 where
  pub stand : LinesAndTurnsStand given world
  pub told : (core : ℕ) → GrantsTell given world core
