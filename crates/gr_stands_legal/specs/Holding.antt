-- What holds at the end of a run, and of the run that a history is of.
use Rattle.std.specs.Prelude.{◌≡◌, ℕ, List, Some}
use Rattle.gr_syntax.specs.declared.syntax.Program.{Program}
use Rattle.gr_lang.specs.declared.action.Entry.{Entry}
use Rattle.gr_machine.specs.declared.setup.Setup.{Setup}
use Rattle.gr_machine.specs.Machines.{machine_of}
use Rattle.gr_machine.specs.Histories.{history_of}
use Rattle.gr_machine.specs.GlobalRuns as runs
use Rattle.gr_machine.specs.GlobalRuns.{Step, global_run}
use Rattle.gr_stands_histories.specs.Invariants.{RunHolds}
use Rattle.gr_stands.specs.Worlds.{Given}
use Rattle.gr_stands_parts.specs.Parts.{PartsRest}
use Rattle.gr_stands_legal.specs.Slots.{given_for}

-- The history of the marks is legal, and the world stands for the plain memory after it, with all parts.
abbrev pub EndHolds : Given → runs.World → Type 0
EndHolds given world = RunHolds given (PartsRest given) world

-- The steps lead to a world, whose marks tell these entries; and these are legal, and the world stands for the plain memory after them, with all parts.
pub record HistoryHolds (setup : Setup) (program : Program) (slot : ℕ) (steps : List Step) (entries : List Entry) : Type 0 where
  pub world : runs.World
  pub goes : global_run (machine_of setup program) slot steps ≡ Some world
  pub tells : history_of world.marks ≡ entries
  pub holds : EndHolds (given_for setup program slot steps) world
