-- A core in the course of a run, with what it has marked and done so far.
use Rattle.std.specs.Prelude.{ℕ, ◌+◌, List, [], ◌∷◌, ◌++◌, Option, if◌then◌else◌}
use Rattle.std.specs.Option.{option_map}
use Rattle.gr_lang.specs.Objects.{Heap}
use Rattle.gr_machine.specs.declared.counts.Counts.{Counts}
use Rattle.gr_machine.specs.declared.event.Event.{Event}
use Rattle.gr_machine.specs.declared.journal.StampedMark.{StampedMark}
use Rattle.gr_machine.specs.declared.mark.Mark.{Mark}
use Rattle.gr_machine.specs.Machines.{Machine}
use Rattle.gr_machine.specs.States.{Suspended, Body, Core}
use Rattle.gr_machine.specs.Outcomes.{Send, Outcome, sent, acted, marks_of, sends_of}
use Rattle.gr_machine.specs.Events.{Course, ticked}
use Rattle.gr_machine.specs.Counting.{is_closed, is_gift, makes_call, is_steal}
use Rattle.gr_machine.specs.Steppers.{stamped}

-- The machine that the core is of, its number, where the heap's words are, the core itself, the marks that it has left, and what it has done.
pub record Seen : Type 0 where
  pub machine : Machine
  pub me : ℕ
  pub heap : Heap
  pub core : Core
  pub marks : List StampedMark
  pub counts : Counts

-- The batches that have gone off once these marks are left.
abbrev pub batches_with : ℕ → List Mark → ℕ
batches_with count [] = count
batches_with count (mark ∷ marks) = batches_with (if is_closed mark then count + 1 else count) marks

-- The units that have been given once these messages are sent.
abbrev pub gives_with : ℕ → List Send → ℕ
gives_with count [] = count
gives_with count (send ∷ sends) = gives_with (if is_gift send.message then count + 1 else count) sends

-- What becomes of it by an outcome.
abbrev pub does_to : Seen → Option Outcome → Seen
does_to seen outcome = record seen {
  core = acted seen.me seen.core outcome;
  marks = seen.marks ++ stamped seen.core.clock (marks_of outcome);
  counts = record seen.counts {
    batches = batches_with seen.counts.batches (marks_of outcome);
    gives = gives_with seen.counts.gives (sends_of outcome);
  };
}

-- One message, or one mark.
abbrev pub with_send : Seen → Send → Seen
with_send seen send = record seen {
  core = sent seen.me seen.core send;
  counts = record seen.counts { gives = if is_gift send.message then seen.counts.gives + 1 else seen.counts.gives };
}

abbrev pub with_mark : Seen → Mark → Seen
with_mark seen mark = record seen {
  marks = seen.marks ++ record { clock = seen.core.clock; mark = mark } ∷ [];
  counts = record seen.counts { batches = if is_closed mark then seen.counts.batches + 1 else seen.counts.batches };
}

-- What becomes of it by what the task in a slot does, where there is one.
abbrev pub acts_at : Seen → ℕ → (Suspended → Outcome) → Seen
acts_at seen slot outcome = does_to seen (option_map outcome (seen.core.body.tasks.slots slot))

-- Some messages, or marks, one after another.
abbrev pub sends_to : Seen → List Send → Seen
sends_to seen [] = seen
sends_to seen (send ∷ sends) = sends_to (with_send seen send) sends

abbrev pub marks_to : Seen → List Mark → Seen
marks_to seen [] = seen
marks_to seen (mark ∷ marks) = marks_to (with_mark seen mark) marks

-- Another body.
abbrev pub with_body : Seen → Body → Seen
with_body seen body = record seen { core = record seen.core { body = body } }

-- The clock has ticked.
abbrev pub ticked_to : Seen → ℕ → Seen
ticked_to seen clock = record seen { core = ticked seen.core clock }

-- What becomes of it in the course of an event.
abbrev pub after : Seen → Course → Seen
after seen course = record seen {
  core = course.core;
  marks = seen.marks ++ stamped seen.core.clock course.marks;
  counts = record seen.counts { batches = batches_with seen.counts.batches course.marks; gives = gives_with seen.counts.gives course.sent };
}

-- What it has done, in numbers, once this event has gone so and has shipped nothing.
abbrev pub done_by : Seen → Event → Course → Counts
done_by seen what course = record (after seen course).counts {
  calls = if makes_call seen.core what then seen.counts.calls + 1 else seen.counts.calls;
  asks = if is_steal what then seen.counts.asks + 1 else seen.counts.asks;
}
