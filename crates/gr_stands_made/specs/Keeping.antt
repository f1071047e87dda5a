-- What must be kept by each piece of a step, so that each step keeps it.
use Rattle.std.specs.Prelude.{ℕ, List, [], ◌∷◌}
use Rattle.gr_lang.specs.States.{State}
use Rattle.gr_msg.specs.declared.message.Msg.{Msg}
use Rattle.gr_machine.specs.Histories.{Sent}
use Rattle.gr_machine.specs.Closes.{closes}
use Rattle.gr_machine.specs.Events.{gives, asks}
use Rattle.gr_stands.specs.Worlds.{Given, machine_in, World, bodies, Moves}
use Rattle.gr_stands_calls.specs.Acting.{letter, IsFirstLetter}
use Rattle.gr_stands_outcomes.specs.Marks.{sent_from}
use Rattle.gr_stands_steps.specs.Entries.{StandsAmongCores}
use Rattle.gr_stands_steps.specs.Telling.{message_outcome}
use Rattle.gr_stands_made.specs.Pieces.{Piece, Starts, RunStarts, StealStarts, ran_at, EndStarts, ended_at}

-- Facts of worlds and plain states, where some batches have gone off: one before an event, one in its course at a core, and one after it. Each piece of a step
-- leads from the one to the other: what a Run, a Serve and a Close do first, the end of a turn, gifts, a question for work, a Ship and a Take.
pub record KeptByPieces (given : Given) (Before : Sent → World → State → Type 0) (Between : ℕ → Sent → World → State → Type 0) (After : Sent → World → State → Type 0) : Type 0 where
  pub runs : (sent : Sent) (before later : World) (state next : State) (me : ℕ) (slots : List ℕ)
      → RunStarts given sent before state me slots → Piece given sent before later state next me [] (ran_at given before me slots)
      → Before sent before state → Between me (sent_from sent me (ran_at given before me slots).marks) later next
  pub serves : (sent : Sent) (before later : World) (state next : State) (me from : ℕ) (message : Msg)
      → Starts given sent before state me → IsFirstLetter given before me from message
      → Piece given sent before later state next me (letter from message ∷ []) (message_outcome given before me from message)
      → Before sent before state → Between me (sent_from sent me (message_outcome given before me from message).marks) later next
  pub ends : (sent : Sent) (before later : World) (state next : State) (me : ℕ) (message : Msg)
      → EndStarts before state me message → Piece given sent before later state next me [] (ended_at given before me message)
      → Between me sent before state → Between me (sent_from sent me (ended_at given before me message).marks) later next
  pub gives : (sent : Sent) (before later : World) (state : State) (me : ℕ)
      → Piece given sent before later state state me [] (gives (bodies before me)) → Between me sent before state → After sent later state
  pub closes : (sent : Sent) (before later : World) (state next : State) (me object : ℕ)
      → Starts given sent before state me → Piece given sent before later state next me [] (closes (machine_in given) (bodies before me) object)
      → Before sent before state → After (sent_from sent me (closes (machine_in given) (bodies before me) object).marks) later next
  pub steals : (sent : Sent) (before later : World) (state : State) (me victim : ℕ)
      → StealStarts given sent before state me victim → Piece given sent before later state state me [] (asks victim (bodies before me))
      → Before sent before state → After sent later state
  pub moves : (sent : Sent) (before later : World) (state : State)
      → Moves given.setup.cores before later → StandsAmongCores given before state → Before sent before state → After sent later state
