-- What the other parts tell at the start of a step.
use Rattle.std.specs.Prelude.{◌≡◌, ℕ, ◌<◌, true, List, [], ◌∷◌, Some}
use Rattle.gr_lang.specs.States.{State}
use Rattle.gr_view.specs.Places.{put}
use Rattle.gr_msg.specs.declared.message.Msg.{Msg}
use Rattle.gr_msg.specs.declared.message.Msg.TheVariants as msg
use Rattle.gr_msg.specs.declared.message.Unit.{Unit as WorkUnit}
use Rattle.gr_net.specs.Sums.{Each}
use Rattle.gr_machine.specs.States.{Suspended, Turn, Vector, Body}
use Rattle.gr_machine.specs.Outcomes.{Outcome}
use Rattle.gr_machine.specs.Histories.{Sent}
use Rattle.gr_machine.specs.Runs.{first_unit}
use Rattle.gr_machine.specs.Serves.{serves}
use Rattle.gr_stands.specs.Worlds.{Given, machine_in, World, bodies}
use Rattle.gr_stands.specs.Actions.{ActionsFit}
use Rattle.gr_stands_calls.specs.Acting.{IsFirst, letter, IsFirstLetter}
use Rattle.gr_stands_changes.specs.Quiet.{TurnsAreOfCores}
use Rattle.gr_stands_closes.specs.Closing.{CloseTells, BatchTells}
use Rattle.gr_stands_turns.specs.Turning.{TurnTells}
use Rattle.gr_stands_enrols.specs.Enrolling.{EnrolTells}
use Rattle.gr_stands_units.specs.Indices.{UnitTells}
use Rattle.gr_stands_passes.specs.Passing.{LeaveTells}
use Rattle.gr_stands_runs.specs.Telling.{VectorsStand, ScopesTell}
use Rattle.gr_stands_outcomes.specs.Inner.{outcome_of}
use Rattle.gr_stands_steps.specs.Entries.{ActsWithMarks}

-- The outcome of a message that comes from a core, where it finds something to act on; else the body stays.
abbrev pub message_outcome : Given → World → ℕ → ℕ → Msg → Outcome
message_outcome given world me from message = outcome_of (bodies world me) (serves (machine_in given) me (bodies world me) from message)

-- A fact of the part of turns, of a message after which the core has this body: where it has left nothing of a turn of this vector, the turn can be finished.
abbrev pub EndTells : World → State → ℕ → ℕ → Body → Type 0
EndTells world state me number body =
    (between : World) (vector : Vector) (turn : Turn) → bodies between ≡ put (bodies world) me body
    → body.vectors.vectors number ≡ Some vector → vector.turn ≡ Some turn → turn.left ≡ 0 → TurnTells between state me number turn

-- A fact of the part of batches: a batch that takes effect acts.
abbrev pub EffectTells : Given → Sent → World → State → ℕ → ℕ → Msg → Type 0
EffectTells given sent world state me from message =
    (outcome : Outcome) → serves (machine_in given) me (bodies world me) from message ≡ Some outcome
    → ActsWithMarks given sent world state me (letter from message ∷ []) outcome

-- What is told of a message that comes first.
abbrev pub MessageTells : Given → Sent → World → State → ℕ → ℕ → Msg → Type 0
MessageTells given sent world state me from (msg.EnrolAck scope) = EnrolTells given world me scope
MessageTells given sent world state me from (msg.Leave scope) = LeaveTells world state me scope
MessageTells given sent world state me from (msg.StealGive unit) = (bodies world me).steals.asked from ≡ true
MessageTells given sent world state me from (msg.Batch object key effect batch) = EffectTells given sent world state me from (msg.Batch object key effect batch)
MessageTells given sent world state me from (msg.BatchReply batch before) = BatchTells given world state me batch before
MessageTells given sent world state me from (msg.Grant vector head tail) =
    EndTells world state me vector (message_outcome given world me from (msg.Grant vector head tail)).body
MessageTells given sent world state me from (msg.ElemAck vector position got) =
    EndTells world state me vector (message_outcome given world me from (msg.ElemAck vector position got)).body
MessageTells given sent world state me from _ = Unit

-- All that the other parts tell at the start of a step of a core: of vectors and turns, of actions, of the first ready task and the next unit there, of the
-- first message, and of the calls that wait on each object.
pub record PartsTell (given : Given) (sent : Sent) (world : World) (state : State) (me : ℕ) : Type 0 where
  pub turns : TurnsAreOfCores given world
  pub vectors : VectorsStand given world
  pub actions : ActionsFit given state
  pub scopes : (slot : ℕ) (more : List ℕ) (task : Suspended) → IsFirst world me slot more task → ScopesTell given world state me slot task
  pub units : (work : WorkUnit) → first_unit (bodies world me) ≡ Some work → UnitTells given state work
  pub messages : (from : ℕ) (message : Msg) → IsFirstLetter given world me from message → MessageTells given sent world state me from message
  pub closes : (object : ℕ) → CloseTells world me object

-- Tasks stand in slots below the number that is given.
abbrev pub SlotsFit : Given → List ℕ → Type 0
SlotsFit given slots = Each (λ slot. slot < given.slots) slots
