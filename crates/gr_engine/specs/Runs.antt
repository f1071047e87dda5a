-- What a run on worker threads leaves: one run of the machine with its history; and when its cores are stuck.
use Rattle.std.specs.Prelude.{◌≡◌, ◌≢◌, ◌<◌, ℕ, false, List, Some, length, slice_index_or}
use Rattle.gr_syntax.specs.declared.syntax.Program.{Program}
use Rattle.gr_machine.specs.declared.core_end.CoreEnd.{CoreEnd}
use Rattle.gr_machine.specs.declared.event.Event.{Event}
use Rattle.gr_machine.specs.declared.event.Event.TheVariants as event
use Rattle.gr_machine.specs.declared.setup.Setup.{Setup}
use Rattle.gr_machine.specs.Enabled.{enabled}
use Rattle.gr_machine.specs.LocalRuns.{End, end_in, local_run}
use Rattle.gr_machine.specs.Machines.{Machine, machine_of}
use Rattle.gr_machine.specs.States as states
use Rattle.gr_merge.specs.LocalRuns.{ended}
use Rattle.gr_view.specs.Places.{at_place}
use Rattle.gr_slice.specs.Slices.{IsNumbered}
use Rattle.gr_world.specs.Worlds.{AreEnds, IsHistoryOf}
use Rattle.gr_engine.specs.declared.ending.WorldEnd.{WorldEnd}

-- The ends are those of one run of the machine, and this is its history.
pub record IsMachineRun (setup : Setup) (program : Program) (world : WorldEnd) : Type 0 where
  pub ends : AreEnds (machine_of setup program) world.cores
  pub history : IsHistoryOf (machine_of setup program) world.cores world.history

-- At the end of its local run a core can make no event but to take a packet.
pub record IsStuck (machine : Machine) (end : End) : Type 0 where
  pub last : states.Core
  pub run : local_run machine end.first end.core end.received end.journal ≡ Some (ended (record { core = last; counts = end.counts }) end.sent end.marks)
  pub events : (what : Event) → IsNumbered what → ((from : ℕ) → what ≢ event.Take from) → enabled machine end.core last what ≡ false

-- So it is with all cores, and no packet is under way.
pub record AreStuck (machine : Machine) (ends : List CoreEnd) : Type 0 where
  pub stuck : (core : ℕ) (default : CoreEnd) → core < length ends → IsStuck machine (end_in (slice_index_or ends core default))
  pub left : (core from : ℕ) (default : CoreEnd) → core < length ends → from < length ends → at_place 0 (slice_index_or ends core default).left from ≡ 0
