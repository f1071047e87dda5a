-- The laws of events that are not of a vector's elements: each leaves these.
use Rattle.std.specs.Prelude.{◌≡◌, ◌≢◌, ℕ, [], ◌∷◌, Some}
use Rattle.gr_msg.specs.declared.message.Msg.{Msg}
use Rattle.gr_msg.specs.declared.message.Unit.{Unit as WorkUnit}
use Rattle.gr_machine.specs.Machines.{Machine}
use Rattle.gr_machine.specs.States.{Suspended, Body}
use Rattle.gr_machine.specs.Outcomes.{Outcome, quietly}
use Rattle.gr_machine.specs.Runs.{acts, run_unit}
use Rattle.gr_machine.specs.Serves.{serves}
use Rattle.gr_machine.specs.Closes.{closes}
use Rattle.gr_machine.specs.TurnServes.{settled_vector}
use Rattle.gr_machine.specs.Events.{gives, asks}
use Rattle.gr_elements.specs.ElementActs.{LeavesElements}
use Rattle.gr_elements_apart.specs.Leaving.{IsOffElements, LeavesWords, LeavesBehind}

-- Run: a task acts, whatever its action.
abbrev pub TasksLeaveWords : Type 0
TasksLeaveWords =
    (machine : Machine) (number me : ℕ) (body : Body) (slot : ℕ) (task : Suspended) → LeavesWords number body [] (acts machine me body slot task task.action)

-- Run: a unit is taken up.
abbrev pub UnitsLeaveWords : Type 0
UnitsLeaveWords =
    (machine : Machine) (number me : ℕ) (body : Body) (slot : ℕ) (work : WorkUnit) (outcome : Outcome)
    → run_unit machine me body slot (Some work) ≡ Some outcome → LeavesWords number body [] outcome

-- Serve: a message that is of no element of the vector and grants no turn of it, where it finds something to act on.
abbrev pub MessagesLeaveWords : Type 0
MessagesLeaveWords =
    (machine : Machine) (number me from : ℕ) (body : Body) (message : Msg) (outcome : Outcome)
    → IsOffElements number message → serves machine me body from message ≡ Some outcome → LeavesBehind number body from message outcome

-- Where it finds nothing, the body stays.
abbrev pub NothingLeavesWords : Type 0
NothingLeavesWords =
    (number from : ℕ) (body : Body) (message : Msg)
    → IsOffElements number message → LeavesWords number body (record { from = from; message = message } ∷ []) (quietly body)

-- Serve: a turn of another vector ends behind a message.
abbrev pub EndsLeaveElements : Type 0
EndsLeaveElements =
    (machine : Machine) (number vector : ℕ) (body : Body) (outcome : Outcome)
    → vector ≢ number → settled_vector machine body vector (body.vectors.vectors vector) ≡ Some outcome → LeavesElements number body [] outcome

-- Close: calls go off, on whatever object.
abbrev pub ClosesLeaveWords : Type 0
ClosesLeaveWords = (machine : Machine) (number object : ℕ) (body : Body) → LeavesWords number body [] (closes machine body object)

-- Gifts, and questions for work.
abbrev pub GiftsLeaveWords : Type 0
GiftsLeaveWords = (number : ℕ) (body : Body) → LeavesWords number body [] (gives body)

abbrev pub QuestionsLeaveWords : Type 0
QuestionsLeaveWords = (number victim : ℕ) (body : Body) → LeavesWords number body [] (asks victim body)
