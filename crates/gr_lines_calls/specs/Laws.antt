-- The laws of events at a core that has its lines: it has them afterwards.
use Rattle.std.specs.Prelude.{◌≡◌, ℕ, ◌<◌, Some, None}
use Rattle.gr_msg.specs.declared.message.Msg.{Msg}
use Rattle.gr_batch.specs.Batches.{batches_of}
use Rattle.gr_net.specs.Sums.{Each}
use Rattle.gr_machine.specs.States.{Suspended, Body}
use Rattle.gr_machine.specs.Outcomes.{Outcome}
use Rattle.gr_machine.specs.Runs.{acts}
use Rattle.gr_machine.specs.Serves.{serves, settles}
use Rattle.gr_machine.specs.Closes.{closes}
use Rattle.gr_stands.specs.Worlds.{Given, machine_in}
use Rattle.gr_stands.specs.Calls.{is_going}
use Rattle.gr_lines.specs.Waiting.{HasLines}
use Rattle.gr_lines_others.specs.Others.{HeapIsNoVector, AreOffLines}

-- Run: a task that goes on acts, whatever its action.
abbrev pub TasksKeepLines : Type 0
TasksKeepLines =
    (given : Given) (me : ℕ) (body : Body) (slot : ℕ) (task : Suspended)
    → HeapIsNoVector given → HasLines given me body → body.tasks.slots slot ≡ Some task → is_going task.waits ≡ 1
    → HasLines given me (acts (machine_in given) me body slot task task.action).body

-- Close: calls go off, as a group or as batches. That those of batches wait on no vector is a fact of the part of batches.
abbrev pub ClosesKeepLines : Type 0
ClosesKeepLines =
    (given : Given) (me : ℕ) (body : Body) (object : ℕ)
    → HasLines given me body
    → (body.vectors.vectors object ≡ None → Each (λ batch. AreOffLines given body batch.calls) (batches_of (body.batches.combiners object)))
    → HasLines given me (closes (machine_in given) body object).body

-- Serve: a message from a core, where it finds something to act on.
abbrev pub MessagesKeepLines : Type 0
MessagesKeepLines =
    (given : Given) (me from : ℕ) (body : Body) (message : Msg) (outcome : Outcome)
    → from < given.setup.cores → HasLines given me body → serves (machine_in given) me body from message ≡ Some outcome → HasLines given me outcome.body

-- Serve: a turn ends behind a message.
abbrev pub TurnsKeepLines : Type 0
TurnsKeepLines =
    (given : Given) (me : ℕ) (body : Body) (message : Msg) (outcome : Outcome)
    → HasLines given me body → settles (machine_in given) body message ≡ Some outcome → HasLines given me outcome.body
