-- A core with its journal: what it has come to, and what it comes to by one entry more.
use Rattle.std.specs.Prelude.{◌≡◌, ℕ, Bool, true, false, List, [], ◌∷◌, ◌++◌, Option, Some}
use Rattle.gr_lang.specs.Objects.{Heap}
use Rattle.gr_merge.specs.LocalRuns.{ended}
use Rattle.gr_merge.specs.Machines.{with_last}
use Rattle.gr_machine.specs.declared.event.Event.{Event}
use Rattle.gr_machine.specs.declared.event.Event.TheVariants as event
use Rattle.gr_machine.specs.declared.journal.Stamped.{Stamped}
use Rattle.gr_machine.specs.Events.{Packet, Transition, core_step}
use Rattle.gr_machine.specs.Counting.{counted}
use Rattle.gr_machine.specs.Machines.{Machine, is_core}
use Rattle.gr_machine.specs.Openings.{opening_core}
use Rattle.gr_machine.specs.LocalRuns.{End, local_run}
use Rattle.gr_machine.specs.Steppers.{stamped}
use Rattle.gr_courses.specs.Seen.{Seen}
use Rattle.gr_state.specs.Opened.{before_all}

-- What is seen of a core; the slot of main at core 0; its journal; and the packets that it took from each core and shipped to each.
pub record Run : Type 0 where
  pub seen : Seen
  pub first : ℕ
  pub journal : List Stamped
  pub received : ℕ → List Packet
  pub sent : ℕ → List Packet

-- A core before its first event, where main is in this slot of core 0 and the heap's words are here.
abbrev pub opened_run : Machine → ℕ → Heap → ℕ → Run
opened_run machine me heap first = record {
  seen = before_all machine me heap (opening_core machine first me);
  first = first;
  journal = [];
  received = λ core. [];
  sent = λ core. [];
}

-- There is such a core; and the journal can be made, takes all packets that were received, and leads to what is seen.
pub record IsRun (run : Run) : Type 0 where
  pub core : is_core run.seen.machine run.seen.me ≡ true
  pub runs : local_run run.seen.machine run.first run.seen.me run.received run.journal
      ≡ Some (ended (record { core = run.seen.core; counts = run.seen.counts }) run.sent run.seen.marks)

-- The packets that were received once an event has taken this one, and those that were sent once it has shipped this one.
abbrev pub received_with : (ℕ → List Packet) → Event → Option Packet → ℕ → List Packet
received_with received (event.Take from) (Some packet) = with_last received from packet
received_with received _ _ = received

abbrev pub sent_with : (ℕ → List Packet) → Event → Option Packet → ℕ → List Packet
sent_with sent (event.Ship dest) (Some packet) = with_last sent dest packet
sent_with sent _ _ = sent

-- What the core comes to by an event, whose new tasks took these slots, which took this packet, and of which this came.
abbrev pub stepped : Run → Event → List ℕ → Option Packet → Transition → Run
stepped run what slots taken next = record {
  seen = record run.seen {
    core = next.core;
    marks = run.seen.marks ++ stamped next.core.clock next.marks;
    counts = counted run.seen.machine run.seen.counts run.seen.core what next;
  };
  first = run.first;
  journal = run.journal ++ record { clock = next.core.clock; event = what; slots = slots } ∷ [];
  received = received_with run.received what taken;
  sent = sent_with run.sent what next.packet;
}

-- The event was made: it is a core step.
pub record Made (before : Run) (what : Event) (after : Run) : Type 0 where
  pub slots : List ℕ
  pub taken : Option Packet
  pub next : Transition
  pub step : core_step before.seen.machine before.seen.me before.seen.core what slots taken ≡ Some next
  pub run : after ≡ stepped before what slots taken next

-- An event was made, or nothing was: only where it takes a packet and none was known, or ships one and no room for it was known.
abbrev pub MadeOr : Run → Event → Run → Bool → Type 0
MadeOr before what after true = Made before what after
MadeOr before what after false = after ≡ before

-- What is left of the core.
abbrev pub end_of : Run → End
end_of run = record {
  core = run.seen.me;
  clock = run.seen.core.clock;
  first = run.first;
  journal = run.journal;
  received = run.received;
  sent = run.sent;
  marks = run.seen.marks;
  counts = run.seen.counts;
}
