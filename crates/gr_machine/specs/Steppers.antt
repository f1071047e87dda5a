-- The machine as one of gr_merge: what an entry of a journal does to a core and to its counts.
use Rattle.std.specs.Prelude.{ℕ, ◌==◌, if◌then◌else◌, List, map, Option, Some, None}
use Rattle.std.specs.Option.{option_and_then}
use Rattle.gr_merge.specs.Machines as merging
use Rattle.gr_merge.specs.Machines.{Kind, inner, takes, ships}
use Rattle.gr_machine.specs.declared.counts.Counts.{Counts}
use Rattle.gr_machine.specs.declared.event.Event.{Event}
use Rattle.gr_machine.specs.declared.event.Event.TheVariants as event
use Rattle.gr_machine.specs.declared.mark.Mark.{Mark}
use Rattle.gr_machine.specs.declared.journal.Stamped.{Stamped}
use Rattle.gr_machine.specs.declared.journal.StampedMark.{StampedMark}
use Rattle.gr_machine.specs.Machines.{Machine, is_core}
use Rattle.gr_machine.specs.States.{Core}
use Rattle.gr_machine.specs.Openings.{opening_core}
use Rattle.gr_machine.specs.Events.{Packet, Transition, core_step}
use Rattle.gr_machine.specs.Counting.{nothing_done, counted}

-- A core with what it has done, in numbers.
pub record CountedCore : Type 0 where
  pub core : Core
  pub counts : Counts

-- The core of this number before its first event, where main is in this slot of core 0.
abbrev pub unused_core : Machine → ℕ → ℕ → CountedCore
unused_core machine slot me = record { core = opening_core machine slot me; counts = nothing_done }

-- A Take takes a packet, a Ship ships one, and every other event is inner to its core.
abbrev pub kind_of : Event → Kind
kind_of (event.Take from) = takes from
kind_of (event.Ship dest) = ships dest
kind_of _ = inner

abbrev pub stamped : ℕ → List Mark → List StampedMark
stamped clock = map (λ mark. record { clock = clock; mark = mark })

-- What an event makes.
abbrev pub Went : Type 0
Went = merging.Went CountedCore Packet StampedMark

-- One event more: its marks have the core's clock after it.
abbrev pub went_on : Machine → CountedCore → Event → Transition → Went
went_on machine before what after = record {
  state = record { core = after.core; counts = counted machine before.counts before.core what after };
  packet = after.packet;
  marks = stamped after.core.clock after.marks;
}

-- The clock of an entry is the core's after the event.
abbrev pub at_clock : Machine → CountedCore → Stamped → Transition → Option Went
at_clock machine before entry after = if after.core.clock == entry.clock then Some (went_on machine before entry.event after) else None

-- An entry of the journal of this core, which takes this packet. Nothing where it can't be made, or there is no such core.
abbrev pub entry_step : Machine → ℕ → CountedCore → Stamped → Option Packet → Option Went
entry_step machine me before entry packet =
    if is_core machine me then option_and_then (at_clock machine before entry) (core_step machine me before.core entry.event entry.slots packet) else None

-- The stepper of the machine.
abbrev pub Stepper : Type 0
Stepper = merging.Machine CountedCore Stamped Packet StampedMark

abbrev pub stepper : Machine → Stepper
stepper machine = record {
  kind = λ entry. kind_of entry.event;
  clock = λ entry. entry.clock;
  stamp = λ packet. packet.clock;
  step = entry_step machine;
}
