-- Local runs: what one core comes to by its journal, with the packets that it takes from each other core.
use Rattle.std.specs.Prelude.{◌≡◌, ℕ, List, [], Option, Some}
use Rattle.gr_merge.specs.LocalRuns.{Came, starts, ended, fold_local}
use Rattle.gr_view.specs.Places.{at_place}
use Rattle.gr_machine.specs.declared.core_end.CoreEnd.{CoreEnd}
use Rattle.gr_machine.specs.declared.counts.Counts.{Counts}
use Rattle.gr_machine.specs.declared.journal.Stamped.{Stamped}
use Rattle.gr_machine.specs.declared.journal.StampedMark.{StampedMark}
use Rattle.gr_machine.specs.Machines.{Machine}
use Rattle.gr_machine.specs.States.{Core}
use Rattle.gr_machine.specs.Events.{Packet}
use Rattle.gr_machine.specs.Steppers.{CountedCore, unused_core, stepper}

-- What a core has come to.
abbrev pub Local : Type 0
Local = Came CountedCore Packet StampedMark

-- What a core comes to by its journal, with these packets to take, where main is in this slot of core 0.
abbrev pub local_run : Machine → ℕ → ℕ → (ℕ → List Packet) → List Stamped → Option Local
local_run machine slot me received journal = fold_local (stepper machine) me (starts (unused_core machine slot me) received) journal

-- The end of a core: its number, its clock, the slot of main, its journal, the packets that it took from each core and shipped to each, its marks and counts.
pub record End : Type 0 where
  pub core : ℕ
  pub clock : ℕ
  pub first : ℕ
  pub journal : List Stamped
  pub received : ℕ → List Packet
  pub sent : ℕ → List Packet
  pub marks : List StampedMark
  pub counts : Counts

-- What a core's end tells.
abbrev pub end_in : CoreEnd → End
end_in end = record {
  core = end.core;
  clock = end.clock;
  first = end.first;
  journal = end.journal;
  received = at_place [] end.received;
  sent = at_place [] end.sent;
  marks = end.marks;
  counts = end.counts;
}

-- The journal can be made, takes all packets that were received, and gives the rest of the end.
pub record IsLocalRun (machine : Machine) (end : End) : Type 0 where
  pub last : Core
  pub clock : last.clock ≡ end.clock
  pub run : local_run machine end.first end.core end.received end.journal ≡ Some (ended (record { core = last; counts = end.counts }) end.sent end.marks)
