-- The stages of events: what a Run, a Serve and a Close do first, the end of a turn, gifts, a question for work; and messages that move.
use Rattle.std.specs.Prelude.{◌≡◌, ℕ, Bool, true, false, List, [], ◌∷◌}
use Rattle.gr_lang.specs.States.{State}
use Rattle.gr_msg.specs.declared.message.Msg.{Msg}
use Rattle.gr_machine.specs.Histories.{Sent}
use Rattle.gr_machine.specs.Closes.{closes}
use Rattle.gr_machine.specs.Events.{gives, asks}
use Rattle.gr_vector.specs.declared.ends.Ends.{Ends}
use Rattle.gr_stands.specs.Worlds.{Given, machine_in, World, bodies, Moves}
use Rattle.gr_stands_calls.specs.Acting.{letter, IsFirstLetter}
use Rattle.gr_stands_outcomes.specs.Marks.{sent_from}
use Rattle.gr_stands_steps.specs.Entries.{StandsAmongCores}
use Rattle.gr_stands_steps.specs.Telling.{message_outcome}
use Rattle.gr_stands_made.specs.Pieces.{Piece, Starts, RunStarts, StealStarts, EndStarts, ran_at, ended_at}
use Rattle.gr_lines_steps.specs.Behind.{ends_settled}
use Rattle.gr_elements_steps.specs.Behind.{words_settled}

pub data Stage : Type 0 where
  ran : (slots : List ℕ) → Stage
  served : (from : ℕ) (message : Msg) → Stage
  ended : (message : Msg) → Stage
  gave : Stage
  closed : (object : ℕ) → Stage
  asked : (victim : ℕ) → Stage
  moved : Stage

-- Whether an event begins with it, and whether one is over after it.
abbrev pub begins : Stage → Bool
begins (ended message) = false
begins gave = false
begins _ = true

abbrev pub is_last : Stage → Bool
is_last (ran slots) = false
is_last (served from message) = false
is_last (ended message) = false
is_last _ = true

-- The stage of an event of a core leads from one world and plain state to another.
abbrev pub IsMade : (given : Given) (sent : Sent) (before later : World) (state next : State) (me : ℕ) → Stage → Type 0
IsMade given sent before later state next me (ran slots) =
    RunStarts given sent before state me slots × Piece given sent before later state next me [] (ran_at given before me slots)
IsMade given sent before later state next me (served from message) =
    Starts given sent before state me × IsFirstLetter given before me from message
    × Piece given sent before later state next me (letter from message ∷ []) (message_outcome given before me from message)
IsMade given sent before later state next me (ended message) =
    EndStarts before state me message × Piece given sent before later state next me [] (ended_at given before me message)
IsMade given sent before later state next me gave = (next ≡ state) × Piece given sent before later state state me [] (gives (bodies before me))
IsMade given sent before later state next me (closed object) =
    Starts given sent before state me × Piece given sent before later state next me [] (closes (machine_in given) (bodies before me) object)
IsMade given sent before later state next me (asked victim) =
    (next ≡ state) × StealStarts given sent before state me victim × Piece given sent before later state state me [] (asks victim (bodies before me))
IsMade given sent before later state next me moved = (next ≡ state) × Moves given.setup.cores before later × StandsAmongCores given before state

-- The batches that have gone off then.
abbrev pub sent_then : Given → Sent → World → ℕ → Stage → Sent
sent_then given sent before me (ran slots) = sent_from sent me (ran_at given before me slots).marks
sent_then given sent before me (served from message) = sent_from sent me (message_outcome given before me from message).marks
sent_then given sent before me (ended message) = sent_from sent me (ended_at given before me message).marks
sent_then given sent before me (closed object) = sent_from sent me (closes (machine_in given) (bodies before me) object).marks
sent_then given sent before me _ = sent

-- Where the words of each vector stand then.
abbrev pub ends_then : World → ℕ → (ℕ → Ends) → Stage → ℕ → Ends
ends_then before me ends (ended message) = ends_settled (bodies before me) message ends
ends_then before me ends _ = ends

-- The words that it has then.
abbrev pub words_then : World → ℕ → (ℕ → List ℕ) → Stage → ℕ → List ℕ
words_then before me words (ended message) = words_settled (bodies before me) message words
words_then before me words _ = words
