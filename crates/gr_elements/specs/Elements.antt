-- Part 6 of 'stands for', of where words are: each word of a vector is in one place, at the home of its position, in a message of a turn or in its answers.
use Rattle.std.specs.Prelude.{◌≡◌, ℕ, ◌+◌, ◌<◌, List, length, Option, Some, None}
use Rattle.std.specs.Option.{option_len}
use Rattle.gr_msg.specs.declared.message.Msg.{Msg}
use Rattle.gr_msg.specs.declared.message.Msg.TheVariants as msg
use Rattle.gr_vector.specs.declared.ends.Ends.{Ends}
use Rattle.gr_net.specs.Sums.{total}
use Rattle.gr_net.specs.Flights.{Everywhere}
use Rattle.gr_machine.specs.Machines.{home}
use Rattle.gr_machine.specs.States.{Turn, Body}
use Rattle.gr_machine.specs.Nets.{messages_in}
use Rattle.gr_stands.specs.Worlds.{Given, machine_in, World, bodies, in_flight}
use Rattle.gr_lines.specs.Waiting.{IsGroup}
use Rattle.gr_lines_turns.specs.Tokens.{vector_at, turn_at}
use Rattle.gr_elements_orders.specs.Orders.{channel, InOrder}
use Rattle.gr_elements_plans.specs.Positions.{standing, gets_at, turn_plan, held_by}
use Rattle.gr_elements.specs.Weights.{elements, putting, getting, carrying, is_put, is_get, of_turn, left_in, puts_in, gets_in, answers_in}

-- A put and a get go from a core that has the turn to the home of the position, and an answer goes to such a core; a word with them is the one that is held
-- at the position.
abbrev pub ElementFits : Given → ℕ → (ℕ → ℕ) → (ℕ → Option ℕ) → ℕ → ℕ → Msg → Type 0
ElementFits given number turns held from to (msg.ElemPut vector position word) =
    vector ≡ number → (to ≡ home (machine_in given) position) × (turns from ≡ 1) × (from < given.setup.cores) × (held position ≡ Some word)
ElementFits given number turns held from to (msg.ElemGet vector position) =
    vector ≡ number → (to ≡ home (machine_in given) position) × (turns from ≡ 1) × (from < given.setup.cores)
ElementFits given number turns held from to (msg.ElemAck vector position None) = vector ≡ number → turns to ≡ 1
ElementFits given number turns held from to (msg.ElemAck vector position (Some word)) = vector ≡ number → (turns to ≡ 1) × (held position ≡ Some word)
ElementFits given number turns held from to _ = Unit

-- A turn is one of a group, whose plan's words are held; the words that its plan gets are those that it still gets and its answers, and these are what is held.
pub record IsTurnOf (ends : Ends) (words : List ℕ) (held : ℕ → Option ℕ) (turn : Turn) : Type 0 where
  pub made : IsGroup turn.calls
  pub holds : (position : ℕ) → held position ≡ held_by turn.calls ends.head words position
  pub planned : (position : ℕ) → gets_in position turn + answers_in position turn ≡ gets_at position (turn_plan turn.calls ends.head words).gets
  pub right : (position word : ℕ) → turn.answers position ≡ Some word → held position ≡ Some word

-- The sum over the turns of a vector, of which there is at most one.
abbrev pub in_turns : Given → ℕ → (ℕ → Body) → (Turn → ℕ) → ℕ
in_turns given number body weight = total given.setup.cores (λ core. of_turn weight (vector_at number body core).turn)

-- Where each word of a vector is that has these words before the turn, from the head of these ends on, and with the words that the turn puts holds these
-- by position.
pub record ElementsStand (given : Given) (world : World) (number : ℕ) (ends : Ends) (words : List ℕ) (held : ℕ → Option ℕ) : Type 0 where
  pub long : ends.tail ≡ ends.head + length words
  pub turn : (core : ℕ) (turn : Turn) → (vector_at number (bodies world) core).turn ≡ Some turn → IsTurnOf ends words held turn
  -- while no core has the turn, no other words are held
  pub idle : ((core : ℕ) → turn_at number (bodies world) core ≡ 0) → (position : ℕ) → held position ≡ standing ends.head words position
  -- each element that isn't answered has one message
  pub left : in_flight (elements number) given.setup.cores world ≡ in_turns given number (bodies world) left_in
  pub puts : (position : ℕ) → in_flight (putting number position) given.setup.cores world ≡ in_turns given number (bodies world) (puts_in position)
  pub gets : (position : ℕ) → in_flight (getting number position) given.setup.cores world ≡ in_turns given number (bodies world) (gets_in position)
  -- each word is at one home, in one message or in one answer
  pub each : (position : ℕ) → total given.setup.cores (λ core. option_len ((vector_at number (bodies world) core).part position))
      + in_flight (carrying number position) given.setup.cores world + in_turns given number (bodies world) (answers_in position) ≡ option_len (held position)
  pub parts : (core position word : ℕ) → (vector_at number (bodies world) core).part position ≡ Some word
      → (home (machine_in given) position ≡ core) × (held position ≡ Some word)
  pub messages : Everywhere messages_in (ElementFits given number (turn_at number (bodies world)) held) given.setup.cores world
  -- on its way to a core no put comes behind a get
  pub ordered : (from to : ℕ) → from < given.setup.cores → to < given.setup.cores → InOrder (is_put number) (is_get number) (channel messages_in world from to)
