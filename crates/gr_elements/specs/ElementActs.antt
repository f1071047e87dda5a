-- What the part of elements asks of an outcome at a core.
use Rattle.std.specs.Prelude.{◌≡◌, ◌≢◌, ◌⊎◌, ℕ, ◌+◌, ◌<◌, List, length, Option, Some}
use Rattle.std.specs.Option.{option_len}
use Rattle.gr_view.specs.Places.{put}
use Rattle.gr_msg.specs.declared.message.Msg.{Msg}
use Rattle.gr_msg.specs.declared.message.Msg.TheVariants as msg
use Rattle.gr_vector.specs.declared.ends.Ends.{Ends}
use Rattle.gr_net.specs.Sums.{weigh, Each}
use Rattle.gr_machine.specs.Machines.{home}
use Rattle.gr_machine.specs.States.{Letter, Turn, Body}
use Rattle.gr_machine.specs.Outcomes.{Outcome}
use Rattle.gr_machine.specs.Nets.{messages_in}
use Rattle.gr_stands.specs.Worlds.{Given, machine_in, World, bodies, of_letters, of_sends}
use Rattle.gr_lines.specs.Lines.{vector_in}
use Rattle.gr_lines_turns.specs.Tokens.{vector_at, turn_at}
use Rattle.gr_elements_orders.specs.Orders.{went, channel, InOrder}
use Rattle.gr_elements_plans.specs.Positions.{standing}
use Rattle.gr_elements.specs.Weights.{elements, putting, getting, carrying, is_put, is_get, of_turn, left_in, puts_in, gets_in, answers_in}
use Rattle.gr_elements.specs.Elements.{ElementFits, IsTurnOf}

-- At its core the outcome changes the turn and the words there as its messages do; the vector may have other words afterwards, that are held.
pub record ElementsAct (given : Given) (world : World) (number me : ℕ) (got : List Letter) (outcome : Outcome) (held : ℕ → Option ℕ)
    (ends : Ends) (words : List ℕ) (now : ℕ → Option ℕ) : Type 0 where
  pub long : ends.tail ≡ ends.head + length words
  pub turn : (core : ℕ) (turn : Turn) → (vector_at number (put (bodies world) me outcome.body) core).turn ≡ Some turn → IsTurnOf ends words now turn
  pub idle : ((core : ℕ) → turn_at number (put (bodies world) me outcome.body) core ≡ 0) → (position : ℕ) → now position ≡ standing ends.head words position
  pub left : of_sends (elements number) me outcome.sends + of_turn left_in (vector_at number (bodies world) me).turn
      ≡ of_letters (elements number) me got + of_turn left_in (vector_in (outcome.body.vectors.vectors number)).turn
  pub puts : (position : ℕ) → of_sends (putting number position) me outcome.sends + of_turn (puts_in position) (vector_at number (bodies world) me).turn
      ≡ of_letters (putting number position) me got + of_turn (puts_in position) (vector_in (outcome.body.vectors.vectors number)).turn
  pub gets : (position : ℕ) → of_sends (getting number position) me outcome.sends + of_turn (gets_in position) (vector_at number (bodies world) me).turn
      ≡ of_letters (getting number position) me got + of_turn (gets_in position) (vector_in (outcome.body.vectors.vectors number)).turn
  pub each : (position : ℕ) → option_len ((vector_in (outcome.body.vectors.vectors number)).part position) + of_sends (carrying number position) me outcome.sends
      + of_turn (answers_in position) (vector_in (outcome.body.vectors.vectors number)).turn + option_len (held position)
      ≡ option_len ((vector_at number (bodies world) me).part position) + of_letters (carrying number position) me got
      + of_turn (answers_in position) (vector_at number (bodies world) me).turn + option_len (now position)
  pub parts : (core position word : ℕ) → (vector_at number (put (bodies world) me outcome.body) core).part position ≡ Some word
      → (home (machine_in given) position ≡ core) × (now position ≡ Some word)
  pub sends : Each (λ send. ElementFits given number (turn_at number (put (bodies world) me outcome.body)) now me send.to send.message) outcome.sends
  pub order : (to : ℕ) → to < given.setup.cores → InOrder (is_put number) (is_get number) (went to outcome.sends)
      × ((weigh (is_get number) (channel messages_in world me to) ≡ 0) ⊎ (weigh (is_put number) (went to outcome.sends) ≡ 0))

-- The message is of no element of the vector.
abbrev pub IsOfNoElement : ℕ → Msg → Type 0
IsOfNoElement number (msg.ElemPut vector position word) = vector ≢ number
IsOfNoElement number (msg.ElemGet vector position) = vector ≢ number
IsOfNoElement number (msg.ElemAck vector position got) = vector ≢ number
IsOfNoElement number _ = Unit

-- The outcome leaves the words of the vector here and its turn, and no message is of its elements.
pub record LeavesElements (number : ℕ) (before : Body) (got : List Letter) (outcome : Outcome) : Type 0 where
  pub part : (vector_in (outcome.body.vectors.vectors number)).part ≡ (vector_in (before.vectors.vectors number)).part
  pub turn : (vector_in (outcome.body.vectors.vectors number)).turn ≡ (vector_in (before.vectors.vectors number)).turn
  pub letters : Each (λ letter. IsOfNoElement number letter.message) got
  pub sends : Each (λ send. IsOfNoElement number send.message) outcome.sends
