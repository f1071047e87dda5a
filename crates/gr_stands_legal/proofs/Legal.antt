-- Each run of a setup and a program has a legal history.
use Rattle.std.proofs.Common.{◌≡◌, ◌++◌, Some, None, refl, ap, ◌∙◌, sym}
use Rattle.std.specs.Prelude.{Option, is_some}
use Rattle.std.specs.Option.{option_map}
use Rattle.gr_lang.specs.States.{State}
use Rattle.gr_lang.specs.Histories.{final}
use Rattle.gr_machine.specs.Machines.{machine_of}
use Rattle.gr_machine.specs.Histories.{history_of}
use Rattle.gr_machine.specs.GlobalRuns as runs
use Rattle.gr_machine.specs.GlobalRuns.{Step, global_run}
use Rattle.gr_stands.specs.Worlds.{Given}
use Rattle.gr_stands_opening.specs.Laws.{ProgramsAreSound}
use Rattle.gr_stands_parts.specs.Laws.{RunsAreHistories}
use Rattle.gr_stands_legal.specs.Slots.{given_for}
use Rattle.gr_stands_legal.specs.Holding.{HistoryHolds}
use Rattle.gr_stands_legal.specs.Laws as laws
use Rattle.gr_stands_legal.proofs.Given.{setups_sound, few_steps, programs_accepted, slots_fit, fronts_fit}

pub given_hold : ProgramsAreSound → RunsAreHistories → laws.GivenRunsHold
given_hold sound histories given setup runnable =
    histories given (setups_sound sound given setup) (programs_accepted given runnable) (few_steps given setup) runnable.literals

pub runs_hold : laws.GivenRunsHold → laws.RunsHold
runs_hold hold setup program is_setup runnable slot steps world goes =
    let fit = slots_fit setup program slot steps in
    hold (given_for setup program slot steps) is_setup runnable slot steps world fit.0 fit.1 goes

pub fronts_hold : laws.GivenRunsHold → laws.FrontsHold
fronts_hold hold setup program is_setup runnable slot front rest world goes =
    let given : Given = given_for setup program slot (front ++ rest) in
    let fit = slots_fit setup program slot (front ++ rest) in
    hold given is_setup runnable slot front world fit.0 (fronts_fit given front rest fit.1) goes

pub histories_hold : laws.RunsHold → laws.HistoriesHold
histories_hold hold setup program is_setup runnable slot steps entries told =
    by (global_run (machine_of setup program) slot steps) refl told
  where
    by : (end : Option runs.World) → global_run (machine_of setup program) slot steps ≡ end
        → option_map (λ (world : runs.World). history_of world.marks) end ≡ Some entries → HistoryHolds setup program slot steps entries
    by None goes same = absurd (cc)
    by (Some world) goes same = record {
      world = world;
      goes = goes;
      tells = cc;
      holds = hold setup program is_setup runnable slot steps world goes;
    }

pub histories_legal : laws.HistoriesHold → laws.HistoriesAreLegal
histories_legal hold setup program is_setup runnable slot steps entries told =
    let run = hold setup program is_setup runnable slot steps entries told in
    ap (λ (found : Option State). is_some found) (ap (final program setup.cores setup.steps) (sym run.tells) ∙ run.holds.leads)
