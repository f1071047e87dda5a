-- The pieces of which a step is made: outcomes of one core, one after another, with the worlds and the plain states between them; or messages that move.
use Rattle.std.specs.Prelude.{◌≡◌, ℕ, ◌<◌, ◌==◌, false, List, [], ◌∷◌, Some}
use Rattle.gr_lang.specs.States.{State}
use Rattle.gr_lang.specs.Histories.{after}
use Rattle.gr_msg.specs.declared.message.Msg.{Msg}
use Rattle.gr_msg.specs.declared.message.Msg.TheVariants as msg
use Rattle.gr_machine.specs.declared.event.Event.{Event}
use Rattle.gr_machine.specs.declared.event.Event.TheVariants as event
use Rattle.gr_machine.specs.declared.mark.Mark.{Mark}
use Rattle.gr_machine.specs.States.{Letter, Turn, Vector, Body}
use Rattle.gr_machine.specs.Outcomes.{Outcome}
use Rattle.gr_machine.specs.Histories.{Sent}
use Rattle.gr_machine.specs.Serves.{settles}
use Rattle.gr_machine.specs.Closes.{closes}
use Rattle.gr_machine.specs.Enabled.{has_no_work}
use Rattle.gr_machine.specs.Events.{gives, asks, slot_of}
use Rattle.gr_stands.specs.Worlds.{Given, machine_in, World, bodies, Acts, Moves}
use Rattle.gr_stands_calls.specs.Acting.{letter, IsFirstLetter}
use Rattle.gr_stands_turns.specs.Turning.{TurnTells}
use Rattle.gr_stands_outcomes.specs.Inner.{outcome_of, run_outcome}
use Rattle.gr_stands_outcomes.specs.Marks.{sent_from, entries_from}
use Rattle.gr_stands_steps.specs.Entries.{StandsAmongCores}
use Rattle.gr_stands_steps.specs.Telling.{message_outcome, PartsTell, SlotsFit}
use Rattle.gr_stands_steps.specs.Laws.{AreFreeToRun}

-- One piece: an outcome at a core leads from one world to the other, and the entries of its marks from the plain state for which the one stands to that for
-- which the other does.
pub record Piece (given : Given) (sent : Sent) (before later : World) (state next : State) (me : ℕ) (got : List Letter) (outcome : Outcome) : Type 0 where
  pub acts : Acts given.setup.cores before later me got outcome
  pub leads : after given.program given.setup.cores given.setup.steps state (entries_from sent me outcome.marks) ≡ Some next
  pub stood : StandsAmongCores given before state
  pub stands : StandsAmongCores given later next

-- What is known at the start of an event of a core: it isn't halted, and the other parts tell what they must.
pub record Starts (given : Given) (sent : Sent) (world : World) (state : State) (me : ℕ) : Type 0 where
  pub here : me < given.setup.cores
  pub untrapped : (bodies world me).stops.trapped ≡ false
  pub unpassed : (bodies world me).stops.passed ≡ false
  pub tells : PartsTell given sent world state me

-- What a Run does first, and what a core finds at the end of a turn, which it may have come to by the message.
abbrev pub ran_at : Given → World → ℕ → List ℕ → Outcome
ran_at given world me slots = run_outcome (machine_in given) me (bodies world me) (slot_of slots) (bodies world me).tasks.ready

abbrev pub ended_at : Given → World → ℕ → Msg → Outcome
ended_at given world me message = outcome_of (bodies world me) (settles (machine_in given) (bodies world me) message)

-- A Run finds work, and has as many free slots as its new task needs.
pub record RunStarts (given : Given) (sent : Sent) (world : World) (state : State) (me : ℕ) (slots : List ℕ) : Type 0 where
  pub start : Starts given sent world state me
  pub work : has_no_work (bodies world me) ≡ false
  pub fit : SlotsFit given slots
  pub free : AreFreeToRun given (bodies world me) slots

-- A Steal is a question to another core, which hasn't been asked yet.
pub record StealStarts (given : Given) (sent : Sent) (world : World) (state : State) (me victim : ℕ) : Type 0 where
  pub start : Starts given sent world state me
  pub there : victim < given.setup.cores
  pub other : (victim == me) ≡ false
  pub unasked : (bodies world me).steals.asked victim ≡ false

-- Where a turn of the vector is at its end, it is one that can be finished: the fact of the part of turns, at the end of a turn.
abbrev pub TurnEnds : World → State → ℕ → ℕ → Type 0
TurnEnds world state me number =
    (vector : Vector) (turn : Turn) → (bodies world me).vectors.vectors number ≡ Some vector → vector.turn ≡ Some turn → turn.left ≡ 0
    → TurnTells world state me number turn

-- So it is after a message that may bring a turn to its end.
abbrev pub EndStarts : World → State → ℕ → Msg → Type 0
EndStarts world state me (msg.Grant vector head tail) = TurnEnds world state me vector
EndStarts world state me (msg.ElemAck vector position got) = TurnEnds world state me vector
EndStarts world state me _ = Unit

-- A Run: what it does first, and then gifts.
pub record RunMade (given : Given) (sent : Sent) (before later : World) (state next : State) (me : ℕ) (slots : List ℕ) (marks : List Mark) : Type 0 where
  pub start : RunStarts given sent before state me slots
  pub left : marks ≡ (ran_at given before me slots).marks
  pub between : World
  pub ran : Piece given sent before between state next me [] (ran_at given before me slots)
  pub gave : Piece given (sent_from sent me (ran_at given before me slots).marks) between later next next me [] (gives (bodies between me))

-- A Serve: what is found to do with the message, the end of a turn, and then gifts.
pub record ServeMade (given : Given) (sent : Sent) (before later : World) (state next : State) (me : ℕ) (marks : List Mark) : Type 0 where
  pub start : Starts given sent before state me
  pub from : ℕ
  pub message : Msg
  pub first : IsFirstLetter given before me from message
  pub between : World
  pub middle : State
  pub served : Piece given sent before between state middle me (letter from message ∷ []) (message_outcome given before me from message)
  pub told : EndStarts between middle me message
  pub ended : World
  pub settled : Piece given (sent_from sent me (message_outcome given before me from message).marks) between ended middle next me [] (ended_at given between me message)
  pub left : sent_from sent me marks ≡ sent_from (sent_from sent me (message_outcome given before me from message).marks) me (ended_at given between me message).marks
  pub gave : Piece given (sent_from sent me marks) ended later next next me [] (gives (bodies ended me))

-- A Close: the calls that wait on the object go off.
pub record CloseMade (given : Given) (sent : Sent) (before later : World) (state next : State) (me object : ℕ) (marks : List Mark) : Type 0 where
  pub start : Starts given sent before state me
  pub left : marks ≡ (closes (machine_in given) (bodies before me) object).marks
  pub closed : Piece given sent before later state next me [] (closes (machine_in given) (bodies before me) object)

-- A Steal: a core is asked for a unit.
pub record StealMade (given : Given) (sent : Sent) (before later : World) (state next : State) (me victim : ℕ) (marks : List Mark) : Type 0 where
  pub start : StealStarts given sent before state me victim
  pub left : marks ≡ []
  pub same : next ≡ state
  pub asked : Piece given sent before later state state me [] (asks victim (bodies before me))

-- A Ship or a Take: messages move, and nothing else is changed.
pub record MoveMade (given : Given) (before later : World) (state next : State) (marks : List Mark) : Type 0 where
  pub left : marks ≡ []
  pub same : next ≡ state
  pub moved : Moves given.setup.cores before later
  pub stood : StandsAmongCores given before state
  pub stands : StandsAmongCores given later state

-- What a step made, by its event: it left these marks, and the world stands for the next plain state.
abbrev pub StepMade : (given : Given) (sent : Sent) (before later : World) (state next : State) (me : ℕ) (slots : List ℕ) (marks : List Mark) → Event → Type 0
StepMade given sent before later state next me slots marks event.Run = RunMade given sent before later state next me slots marks
StepMade given sent before later state next me slots marks event.Serve = ServeMade given sent before later state next me marks
StepMade given sent before later state next me slots marks (event.Close object) = CloseMade given sent before later state next me object marks
StepMade given sent before later state next me slots marks (event.Steal victim) = StealMade given sent before later state next me victim marks
StepMade given sent before later state next me slots marks (event.Ship dest) = MoveMade given before later state next marks
StepMade given sent before later state next me slots marks (event.Take from) = MoveMade given before later state next marks
