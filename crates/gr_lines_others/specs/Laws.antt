-- The laws of events that are not of vectors: each leaves the calls that wait on vectors.
use Rattle.std.specs.Prelude.{◌≡◌, ℕ, List, Some, None}
use Rattle.gr_msg.specs.declared.message.Msg.{Msg}
use Rattle.gr_msg.specs.declared.message.Unit.{Unit as WorkUnit}
use Rattle.gr_batch.specs.Batches.{batches_of}
use Rattle.gr_batch.specs.declared.combiner.Held.{Held}
use Rattle.gr_net.specs.Sums.{Each}
use Rattle.gr_machine.specs.States.{Suspended, Body}
use Rattle.gr_machine.specs.Outcomes.{Outcome}
use Rattle.gr_machine.specs.Runs.{acts, run_unit, slots_of}
use Rattle.gr_machine.specs.Serves.{serves}
use Rattle.gr_machine.specs.Closes.{closes_combiner}
use Rattle.gr_machine.specs.Events.{gives, asks}
use Rattle.gr_stands.specs.Worlds.{Given, machine_in}
use Rattle.gr_stands.specs.Calls.{is_going}
use Rattle.gr_lines.specs.Leaving.{LeavesLines}
use Rattle.gr_lines_others.specs.Others.{HeapIsNoVector, IsOfNoVector, IsOfNoTurn, AreOffLines}

-- Run: a task that goes on acts, and makes no call on a vector.
abbrev pub TasksLeaveLines : Type 0
TasksLeaveLines =
    (given : Given) (me : ℕ) (body : Body) (slot : ℕ) (task : Suspended)
    → HeapIsNoVector given → body.tasks.slots slot ≡ Some task → is_going task.waits ≡ 1 → IsOfNoVector task.action
    → LeavesLines given body (acts (machine_in given) me body slot task task.action).body

-- Run: a unit is taken up. Where it takes a slot, that is free.
abbrev pub UnitsLeaveLines : Type 0
UnitsLeaveLines =
    (given : Given) (me : ℕ) (body : Body) (slot : ℕ) (work : WorkUnit) (outcome : Outcome)
    → (slots_of work ≡ 1 → body.tasks.slots slot ≡ None) → run_unit (machine_in given) me body slot (Some work) ≡ Some outcome
    → LeavesLines given body outcome.body

-- Serve: a message that is of no turn.
abbrev pub MessagesLeaveLines : Type 0
MessagesLeaveLines =
    (given : Given) (me from : ℕ) (body : Body) (message : Msg) (outcome : Outcome)
    → IsOfNoTurn message → serves (machine_in given) me body from message ≡ Some outcome → LeavesLines given body outcome.body

-- Close: calls go off as batches, and wait on no vector.
abbrev pub BatchesLeaveLines : Type 0
BatchesLeaveLines =
    (given : Given) (body : Body) (object : ℕ) (held : List Held)
    → Each (λ batch. AreOffLines given body batch.calls) (batches_of held) → LeavesLines given body (closes_combiner (machine_in given) body object held).body

-- Gifts, and questions for work.
abbrev pub GiftsLeaveLines : Type 0
GiftsLeaveLines = (given : Given) (body : Body) → LeavesLines given body (gives body).body

abbrev pub QuestionsLeaveLines : Type 0
QuestionsLeaveLines = (given : Given) (victim : ℕ) (body : Body) → LeavesLines given body (asks victim body).body
