-- What the end of a turn needs of the part of turns.
use Rattle.std.specs.Prelude.{◌≡◌, ◌≢◌, ℕ, List, [], ◌∷◌, slice_get, Some}
use Rattle.gr_lang.specs.declared.action.Action.TheVariants as action
use Rattle.gr_lang.specs.declared.action.Op.{Op}
use Rattle.gr_lang.specs.declared.action.Op.TheVariants as op
use Rattle.gr_lang.specs.declared.action.Reply.{Reply}
use Rattle.gr_lang.specs.declared.action.WaitingCall.{WaitingCall}
use Rattle.gr_lang.specs.Effects.{line_after, line_reply}
use Rattle.gr_lang.specs.Objects.{line}
use Rattle.gr_lang.specs.States.{State}
use Rattle.gr_net.specs.Sums.{Each}
use Rattle.gr_machine.specs.declared.waits.Waits.TheVariants as wait
use Rattle.gr_machine.specs.States.{Suspended, Turn, Body}
use Rattle.gr_machine.specs.TurnServes.{turn_replies}
use Rattle.gr_stands.specs.Worlds.{World, bodies}

-- The call is one of this vector.
abbrev pub IsOfLine : Op → ℕ → Type 0
IsOfLine (op.Push object word) vector = object ≡ vector
IsOfLine (op.Pop object) vector = object ≡ vector
IsOfLine (op.Dequeue object) vector = object ≡ vector
IsOfLine _ vector = ⊥

-- A call with its reply, of the words that the vector has in the plain state: its task waits for a turn, and makes this call next.
pub record IsAnswered (body : Body) (vector : ℕ) (words : List ℕ) (answer : WaitingCall × Reply) : Type 0 where
  pub task : Suspended
  pub there : body.tasks.slots answer.0.slot ≡ Some task
  pub waits : task.waits ≡ wait.Turn vector
  pub named : task.id ≡ answer.0.id
  pub due : task.action ≡ action.Call answer.0.op
  pub of : IsOfLine answer.0.op vector
  pub replies : line_reply answer.0.op words ≡ answer.1

-- So it is for each call, after those before it, and their slots are different.
abbrev pub AreAnswered : Body → ℕ → List ℕ → List (WaitingCall × Reply) → Type 0
AreAnswered body vector words [] = Unit
AreAnswered body vector words (answer ∷ answers) =
    IsAnswered body vector words answer × Each (λ other. other.0.slot ≢ answer.0.slot) answers × AreAnswered body vector (line_after answer.0.op words) answers

-- Facts of the part of turns, where nothing is left of a turn: the vector's words in the plain state, of which its calls get their replies.
pub record TurnTells (world : World) (state : State) (me vector : ℕ) (turn : Turn) : Type 0 where
  pub words : List ℕ
  pub line : slice_get state.objects.things vector ≡ Some (line words)
  pub answers : AreAnswered (bodies world me) vector words (turn_replies turn)
