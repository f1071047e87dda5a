-- What a run that was made leaves, and what the code tells of its end.
use Rattle.std.specs.Prelude.{◌≡◌, List, Option, Some}
use Rattle.std.specs.Option.{option_map}
use Rattle.gr_syntax.specs.declared.syntax.Program.{Program}
use Rattle.gr_code.specs.Shapes.{shapes_of}
use Rattle.gr_core.specs.declared.cores.Core.{Core}
use Rattle.gr_machine.specs.declared.setup.Setup.{Setup}
use Rattle.gr_machine.specs.Machines.{machine_of}
use Rattle.gr_memory.specs.declared.contents.Content.{Content}
use Rattle.gr_report.specs.declared.texts.TrapAt.{TrapAt}
use Rattle.gr_report.specs.Gathered.{AreGathered}
use Rattle.gr_round.specs.declared.outcomes.Outcome.{Outcome}
use Rattle.gr_round.specs.declared.outcomes.Outcome.TheVariants as how
use Rattle.gr_round.specs.Outcomes.{Concluded}
use Rattle.gr_world.specs.Worlds.{AreCores, AreEndsOf}
use Rattle.gr_engine.specs.declared.ending.Ending.{Ending}
use Rattle.gr_engine.specs.declared.ending.Ending.TheVariants as ending
use Rattle.gr_engine.specs.declared.ending.WorldEnd.{WorldEnd}
use Rattle.gr_engine.specs.Runs.{IsMachineRun}

-- A run on the machine: its cores when it had this outcome, what the objects then held by them where it ended, and what it leaves.
pub record IsRunTo (setup : Setup) (program : Program) (outcome : Outcome) (gathered : List Content) (world : WorldEnd) : Type 0 where
  pub cores : List Core
  pub are : AreCores (machine_of setup program) cores
  pub concluded : Concluded outcome cores
  pub contents : outcome ≡ how.Ended → AreGathered cores 0 (shapes_of program) gathered
  pub ends : AreEndsOf cores world.cores
  pub run : IsMachineRun setup program world

-- What is told of a run with this outcome: what its objects hold, the first trap of its history, or the core at the limit; nothing where a trap is told and there is none.
abbrev pub told_as : Outcome → List Content → Option TrapAt → Option Ending
told_as how.Ended gathered trap = Some (ending.Complete gathered)
told_as how.Trapped gathered trap = option_map ending.Trapped trap
told_as (how.EventLimit core clock) gathered trap = Some (ending.Limited (record { core = core; clock = clock }))
told_as how.Stalled gathered trap = Some ending.Stalled
