-- What whose turn it is asks of an outcome at a core.
use Rattle.std.specs.Prelude.{◌≡◌, ◌≢◌, ℕ, ◌+◌, ◌≤◌, List, [], length, Some}
use Rattle.std.specs.Option.{option_len}
use Rattle.gr_view.specs.Places.{put}
use Rattle.gr_msg.specs.declared.message.Msg.{Msg}
use Rattle.gr_msg.specs.declared.message.Msg.TheVariants as msg
use Rattle.gr_vector.specs.declared.ends.Ends.{Ends}
use Rattle.gr_net.specs.Sums.{Each}
use Rattle.gr_machine.specs.States.{Letter, Turn, Body}
use Rattle.gr_machine.specs.Outcomes.{Outcome}
use Rattle.gr_stands.specs.Worlds.{Given, machine_in, World, bodies, of_letters, of_sends}
use Rattle.gr_stands.specs.Calls.{times}
use Rattle.gr_lines.specs.Lines.{vector_in}
use Rattle.gr_lines_turns.specs.Tokens.{vector_at, turns_in, turns_at, turn_at, is_first, asks, grants, dones, TokenStands}

-- What the outcome changes at its core, and at the home of the vector, the messages weigh.
pub record TurnAct (given : Given) (world : World) (number me : ℕ) (got : List Letter) (outcome : Outcome) (next : Ends) : Type 0 where
  pub order : next.head ≤ next.tail
  pub token : (core : ℕ) → turn_at number (put (bodies world) me outcome.body) core
      + (of_sends (grants number core) me outcome.sends + of_sends (dones number core) me outcome.sends) + is_first core (turns_at (machine_in given) number (bodies world)).cores
      ≡ turn_at number (bodies world) core
      + (of_letters (grants number core) me got + of_letters (dones number core) me got) + is_first core (turns_at (machine_in given) number (put (bodies world) me outcome.body)).cores
  pub asked : (core : ℕ) → length (vector_at number (put (bodies world) me outcome.body) core).groups
      + (of_sends (dones number core) me outcome.sends + of_letters (asks number core) me got) + times core (turns_at (machine_in given) number (bodies world)).cores
      ≡ length (vector_at number (bodies world) core).groups
      + (of_letters (dones number core) me got + of_sends (asks number core) me outcome.sends) + times core (turns_at (machine_in given) number (put (bodies world) me outcome.body)).cores
  pub rests : (turns_at (machine_in given) number (put (bodies world) me outcome.body)).cores ≡ []
      → ((turns_at (machine_in given) number (put (bodies world) me outcome.body)).head ≡ next.head) × ((turns_at (machine_in given) number (put (bodies world) me outcome.body)).tail ≡ next.tail)
  pub turn : (core : ℕ) (turn : Turn) → (vector_at number (put (bodies world) me outcome.body) core).turn ≡ Some turn → turn.ends ≡ next
  pub sends : Each (λ send. TokenStands (machine_in given) number next me send.to send.message) outcome.sends

-- The message is none of the turns of this vector.
abbrev pub IsOfOther : ℕ → Msg → Type 0
IsOfOther number (msg.Turn vector) = vector ≢ number
IsOfOther number (msg.Grant vector head tail) = vector ≢ number
IsOfOther number (msg.Done vector head tail) = vector ≢ number
IsOfOther number _ = Unit

-- The outcome leaves the turns of this vector: a core that has the turn keeps it, with as many groups, and no message is of them.
pub record LeavesTurns (number : ℕ) (before : Body) (got : List Letter) (outcome : Outcome) : Type 0 where
  pub turn : option_len (vector_in (outcome.body.vectors.vectors number)).turn ≡ option_len (vector_in (before.vectors.vectors number)).turn
  pub ends : (turn : Turn) → (vector_in (outcome.body.vectors.vectors number)).turn ≡ Some turn
      → (old : Turn) × ((vector_in (before.vectors.vectors number)).turn ≡ Some old) × (turn.ends ≡ old.ends)
  pub groups : length (vector_in (outcome.body.vectors.vectors number)).groups ≡ length (vector_in (before.vectors.vectors number)).groups
  pub masters : turns_in (outcome.body.vectors.masters number) ≡ turns_in (before.vectors.masters number)
  pub letters : Each (λ letter. IsOfOther number letter.message) got
  pub sends : Each (λ send. IsOfOther number send.message) outcome.sends
