-- The laws of events that are not of a vector's turns: each leaves these.
use Rattle.std.specs.Prelude.{◌≡◌, ◌≢◌, ℕ, [], ◌∷◌, Some}
use Rattle.gr_msg.specs.declared.message.Msg.{Msg}
use Rattle.gr_msg.specs.declared.message.Unit.{Unit as WorkUnit}
use Rattle.gr_machine.specs.Machines.{Machine}
use Rattle.gr_machine.specs.States.{Suspended, Body}
use Rattle.gr_machine.specs.Outcomes.{Outcome, quietly}
use Rattle.gr_machine.specs.Runs.{acts, run_unit}
use Rattle.gr_machine.specs.Serves.{serves}
use Rattle.gr_machine.specs.Closes.{closes}
use Rattle.gr_machine.specs.TurnServes.{settled_vector}
use Rattle.gr_machine.specs.Events.{gives, asks}
use Rattle.gr_lines_turns.specs.TokenActs.{IsOfOther, LeavesTurns}

-- Run: a task acts, whatever its action.
abbrev pub TasksLeaveTurns : Type 0
TasksLeaveTurns =
    (machine : Machine) (number me : ℕ) (body : Body) (slot : ℕ) (task : Suspended)
    → LeavesTurns number body [] (acts machine me body slot task task.action)

-- Run: a unit is taken up.
abbrev pub UnitsLeaveTurns : Type 0
UnitsLeaveTurns =
    (machine : Machine) (number me : ℕ) (body : Body) (slot : ℕ) (work : WorkUnit) (outcome : Outcome)
    → run_unit machine me body slot (Some work) ≡ Some outcome → LeavesTurns number body [] outcome

-- Serve: a message that is none of the turns of the vector, where it finds something to act on.
abbrev pub MessagesLeaveTurns : Type 0
MessagesLeaveTurns =
    (machine : Machine) (number me from : ℕ) (body : Body) (message : Msg) (outcome : Outcome)
    → IsOfOther number message → serves machine me body from message ≡ Some outcome
    → LeavesTurns number body (record { from = from; message = message } ∷ []) outcome

-- Where it finds nothing, the body stays.
abbrev pub NothingLeavesTurns : Type 0
NothingLeavesTurns =
    (number from : ℕ) (body : Body) (message : Msg)
    → IsOfOther number message → LeavesTurns number body (record { from = from; message = message } ∷ []) (quietly body)

-- Serve: a turn of another vector ends behind a message.
abbrev pub EndsLeaveTurns : Type 0
EndsLeaveTurns =
    (machine : Machine) (number vector : ℕ) (body : Body) (outcome : Outcome)
    → vector ≢ number → settled_vector machine body vector (body.vectors.vectors vector) ≡ Some outcome → LeavesTurns number body [] outcome

-- Close: calls go off on another object.
abbrev pub ClosesLeaveTurns : Type 0
ClosesLeaveTurns = (machine : Machine) (number object : ℕ) (body : Body) → object ≢ number → LeavesTurns number body [] (closes machine body object)

-- Gifts, and questions for work.
abbrev pub GiftsLeaveTurns : Type 0
GiftsLeaveTurns = (number : ℕ) (body : Body) → LeavesTurns number body [] (gives body)

abbrev pub QuestionsLeaveTurns : Type 0
QuestionsLeaveTurns = (number victim : ℕ) (body : Body) → LeavesTurns number body [] (asks victim body)
