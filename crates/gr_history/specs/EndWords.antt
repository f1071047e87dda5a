-- The world to which a run leads, and what is known of it.
use Rattle.std.specs.Prelude.{◌≡◌, ℕ, ◌<◌, List, length, slice_index_or, Some}
use Rattle.gr_lang.specs.declared.action.Entry.{Entry}
use Rattle.gr_machine.specs.declared.core_end.CoreEnd.{CoreEnd}
use Rattle.gr_machine.specs.GlobalRuns as runs
use Rattle.gr_machine.specs.GlobalRuns.{global_run}
use Rattle.gr_machine.specs.Histories.{history_of}
use Rattle.gr_lang.specs.Histories.{final}
use Rattle.gr_lang.specs.States.{State}
use Rattle.gr_machine.specs.Machines.{Machine}
use Rattle.gr_machine.specs.Nets.{world_in}
use Rattle.gr_core.specs.declared.cores.Core.{Core}
use Rattle.gr_core.specs.Cores.{run_of}
use Rattle.gr_stands.specs.Worlds.{Given, machine_in, bodies}
use Rattle.gr_stands.specs.Memory.{WordsStand}
use Rattle.gr_world.specs.Worlds.{slot_of_main, steps_of}

-- The merge of the journals of these ends is a global run to this world, and its marks tell these entries.
pub record LeadsTo (machine : Machine) (ends : List CoreEnd) (entries : List Entry) (world : runs.World) : Type 0 where
  pub run : global_run machine (slot_of_main ends) (steps_of ends) ≡ Some world
  pub told : entries ≡ history_of world.marks

-- What each of these cores has come to is what it has in the world.
abbrev pub HaveStates : List Core → runs.World → Type 0
HaveStates cores world = (core : ℕ) (default : Core) → core < length cores → (world.states core).core ≡ (run_of (slice_index_or cores core default)).seen.core

-- The history of a run leads to the plain state, whose words the world has, and core 0 has passed the root where that is passed.
pub record EndStands (given : Given) (world : runs.World) (state : State) : Type 0 where
  pub leads : final given.program given.setup.cores given.setup.steps (history_of world.marks) ≡ Some state
  pub words : WordsStand (machine_in given) (bodies (world_in world)) state.objects
  pub passed : (bodies (world_in world) 0).stops.passed ≡ state.passed
