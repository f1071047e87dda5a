-- The law of the end of a run.
use Rattle.std.specs.Prelude.{◌≡◌, List}
use Rattle.gr_syntax.specs.declared.syntax.Program.{Program}
use Rattle.gr_lang.specs.declared.action.Entry.{Entry}
use Rattle.gr_machine.specs.declared.core_end.CoreEnd.{CoreEnd}
use Rattle.gr_machine.specs.declared.setup.Setup.{Setup}
use Rattle.gr_machine.specs.Machines.{machine_of}
use Rattle.gr_code.specs.Shapes.{shapes_of}
use Rattle.gr_core.specs.declared.cores.Core.{Core}
use Rattle.gr_memory.specs.declared.contents.Content.{Content}
use Rattle.gr_posts.specs.Posts.{IsSetup}
use Rattle.gr_report.specs.Gathered.{AreGathered}
use Rattle.gr_round.specs.declared.outcomes.Outcome.{Outcome}
use Rattle.gr_round.specs.declared.outcomes.Outcome.TheVariants as how
use Rattle.gr_round.specs.Outcomes.{Concluded}
use Rattle.gr_world.specs.Worlds.{AreCores, AreEnds, AreEndsOf, IsHistoryOf}
use Rattle.gr_runnable.specs.Runnable.{IsRunnable}
use Rattle.gr_history.specs.Agreeing.{EndsAgree}

-- The cores of a run of a program with their outcome, and what they hold together where it ended: they say of the end what the history of the run says.
abbrev pub RunsAgree : Type 0
RunsAgree =
    (setup : Setup) (program : Program) (outcome : Outcome) (gathered : List Content) (cores : List Core) (ends : List CoreEnd) (entries : List Entry)
    → IsSetup setup → IsRunnable program → AreCores (machine_of setup program) cores → AreEndsOf cores ends → AreEnds (machine_of setup program) ends
    → IsHistoryOf (machine_of setup program) ends entries → Concluded outcome cores
    → (outcome ≡ how.Ended → AreGathered cores 0 (shapes_of program) gathered) → EndsAgree setup program outcome gathered entries ends
