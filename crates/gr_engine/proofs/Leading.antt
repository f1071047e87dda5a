-- What a run that was made leaves.
use Rattle.std.proofs.Common.{◌≡◌, List, refl, sym, ap, ◌∙◌, subst}
use Rattle.gr_syntax.specs.declared.syntax.Program.{Program}
use Rattle.gr_lang.specs.declared.action.Entry.{Entry}
use Rattle.gr_code.specs.Shapes.{shapes_of}
use Rattle.gr_machine.specs.declared.core_end.CoreEnd.{CoreEnd}
use Rattle.gr_machine.specs.declared.setup.Setup.{Setup}
use Rattle.gr_machine.specs.Machines.{Machine, machine_of}
use Rattle.gr_core.specs.declared.cores.Core.{Core}
use Rattle.gr_memory.specs.declared.contents.Content.{Content}
use Rattle.gr_report.specs.Gathered.{AreGathered}
use Rattle.gr_round.specs.declared.outcomes.Outcome.{Outcome}
use Rattle.gr_round.specs.declared.outcomes.Outcome.TheVariants as how
use Rattle.gr_round.specs.Outcomes.{Concluded}
use Rattle.gr_world.specs.Worlds.{AreCores, AreEnds, AreEndsOf, AreOfOneRun, IsHistoryOf}
use Rattle.gr_engine.specs.declared.ending.Ending.{Ending}
use Rattle.gr_engine.specs.declared.ending.Ending.TheVariants as ending
use Rattle.gr_engine.specs.declared.ending.Ran.{Ran}
use Rattle.gr_engine.specs.declared.ending.WorldEnd.{WorldEnd}
use Rattle.gr_engine.specs.Ends.{Ended, IsEnding, ended_as, stalled}
use Rattle.gr_engine.specs.EndingWords.{IsRunTo}
use Rattle.gr_engine.specs.Runs.{AreStuck}
use Rattle.gr_engine.proofs.Stuck.{are_stuck}

pub of_one_run : (machine : Machine) (cores : List Core) → AreCores machine cores → AreOfOneRun cores
of_one_run machine cores are = (machine, are)

pub made_run : (setup : Setup) (p : Program) (first cores : List Core) (outcome : Outcome) (gathered : List Content) (ends : List CoreEnd) (history : List Entry)
    → AreCores (machine_of setup p) first → ((machine : Machine) → AreCores machine first → AreCores machine cores) → Concluded outcome cores
    → (outcome ≡ how.Ended → AreGathered cores 0 (shapes_of p) gathered) → AreEndsOf cores ends
    → ((machine : Machine) → AreCores machine cores → AreEnds machine ends) → ((machine : Machine) → AreEnds machine ends → IsHistoryOf machine ends history)
    → IsRunTo setup p outcome gathered (record { cores = ends; history = history })
made_run setup p first cores outcome gathered ends history start goes concluded holds of are told =
    let now : AreCores (machine_of setup p) cores = goes (machine_of setup p) start in
    let left : AreEnds (machine_of setup p) ends = are (machine_of setup p) now in
    record {
      cores = cores;
      are = now;
      concluded = concluded;
      contents = holds;
      ends = of;
      run = record { ends = left; history = told (machine_of setup p) left };
    }

pub ruleset leads = (of_one_run, made_run)

-- A run that ended stalled is stuck.
stalled_end : (what : Ending) (ended : Ended) → IsEnding what ended → ended ≡ stalled → what ≡ ending.Stalled
stalled_end ending.Stalled ended h e = refl
stalled_end (ending.Complete contents) ended h e = absurd (subst (IsEnding (ending.Complete contents)) e h)
stalled_end (ending.Trapped trap) ended h e = absurd (subst (IsEnding (ending.Trapped trap)) e h)
stalled_end (ending.Limited at) ended h e = absurd (subst (IsEnding (ending.Limited at)) e h)

run_stuck : (setup : Setup) (p : Program) (outcome : Outcome) (gathered : List Content) (world : WorldEnd) (what : Ending) → IsRunTo setup p outcome gathered world
    → IsEnding what (ended_as setup p world) → (what ≡ ending.Stalled → outcome ≡ how.Stalled) → ended_as setup p world ≡ stalled
    → AreStuck (machine_of setup p) world.cores
run_stuck setup p outcome gathered world what run ends only e =
    are_stuck (machine_of setup p) run.cores world.cores run.are run.ends
    (subst (λ (x : Outcome). Concluded x run.cores) (only (stalled_end what (ended_as setup p world) ends e)) run.concluded)

pub ran_stuck : (setup : Setup) (p : Program) (outcome : Outcome) (gathered : List Content) (world : WorldEnd) (ran : Ran) → IsRunTo setup p outcome gathered world → ran.world ≡ world
    → IsEnding ran.ending (ended_as setup p world) → (ran.ending ≡ ending.Stalled → outcome ≡ how.Stalled) → ended_as setup p ran.world ≡ stalled → AreStuck (machine_of setup p) ran.world.cores
ran_stuck setup p outcome gathered world ran run same ends only e =
    subst (λ (w : WorldEnd). AreStuck (machine_of setup p) w.cores) (sym same)
    (run_stuck setup p outcome gathered world ran.ending run ends only (ap (λ (w : WorldEnd). ended_as setup p w) (sym same) ∙ e))
