-- A run of a program: its world stands for the plain state after its history, and the cores say of its end what that does.
use Rattle.std.proofs.Common.{◌≡◌, ◌<◌, true, List, ap, ◌∙◌, sym, subst}
use Rattle.gr_syntax.specs.declared.syntax.Program.{Program}
use Rattle.gr_code.specs.Shapes.{shapes_of}
use Rattle.gr_lang.specs.declared.action.Entry.{Entry}
use Rattle.gr_lang.specs.Histories.{final}
use Rattle.gr_machine.specs.declared.core_end.CoreEnd.{CoreEnd}
use Rattle.gr_machine.specs.declared.setup.Setup.{Setup}
use Rattle.gr_machine.specs.GlobalRuns as runs
use Rattle.gr_machine.specs.Laws.{RunsMerge, UnusedCoresRun}
use Rattle.gr_machine.specs.Machines.{machine_of}
use Rattle.gr_machine.specs.Nets.{world_in}
use Rattle.gr_machine.specs.States as states
use Rattle.gr_core.specs.declared.cores.Core.{Core}
use Rattle.gr_memory.specs.declared.contents.Content.{Content}
use Rattle.gr_memory.specs.Contents.{contents_of}
use Rattle.gr_posts.specs.Posts.{IsSetup}
use Rattle.gr_report.specs.Gathered.{AreGathered}
use Rattle.gr_round.specs.declared.outcomes.Outcome.{Outcome}
use Rattle.gr_round.specs.declared.outcomes.Outcome.TheVariants as how
use Rattle.gr_round.specs.Outcomes.{Concluded}
use Rattle.gr_world.specs.Worlds.{AreCores, AreEnds, AreEndsOf, slot_of_main, steps_of}
use Rattle.gr_runnable.specs.Runnable.{IsRunnable}
use Rattle.gr_stands_contents.specs.Laws.{ContentsStand}
use Rattle.gr_history.specs.Agreeing.{EndsAgree}
use Rattle.gr_history.specs.EndWords.{LeadsTo, EndStands, HaveStates}
use Rattle.gr_history.specs.Laws as laws
use Rattle.gr_history.proofs.Bodies.{have_states, world_led}
use Rattle.gr_history.proofs.Ends.{agree, some_passed}
use Rattle.gr_machine.specs.GlobalRuns.{Step, global_run}
use Rattle.gr_stands.specs.Worlds.{Given, bodies}
use Rattle.gr_stands.specs.Stands.{IsSound}
use Rattle.gr_stands_contents.specs.Rests.{HaveBodies, VectorsRest}
use Rattle.gr_stands_legal.specs.Holding.{EndHolds}
use Rattle.gr_stands_rests.specs.Laws.{PassedRunsRest, RunsPutAsPlanned}
use Rattle.gr_stands_stops.specs.Laws.{ScopesStandInRuns, StopsTellInRuns}
use Rattle.gr_stands_stops.specs.Stops.{StopsTell}
use Rattle.gr_stands_legal.specs.Laws.{SetupsAreSound, SlotsOfRunsFit, GivenRunsHold}
use Rattle.gr_stands_legal.specs.Slots.{given_for}

module _ (unused : UnusedCoresRun) (merges : RunsMerge) (contents : ContentsStand) (sounds : SetupsAreSound) (fits : SlotsOfRunsFit) (holds : GivenRunsHold)
    (stop : StopsTellInRuns) (rest : PassedRunsRest) (planned : RunsPutAsPlanned) (setup : Setup) (program : Program) (cores : List Core) (ends : List CoreEnd) (entries : List Entry)
    (is : IsSetup setup) (runnable : IsRunnable program) (are : AreCores (machine_of setup program) cores) (of : AreEndsOf cores ends)
    (fit : AreEnds (machine_of setup program) ends) (world : runs.World) (leads : LeadsTo (machine_of setup program) ends entries world) where
  abbrev given : Given
  given = given_for setup program (slot_of_main ends) (steps_of ends)

  low : slot_of_main ends < given.slots
  low = (fits setup program (slot_of_main ends) (steps_of ends)).0

  sound : IsSound given
  sound = sounds given is

  run : EndHolds given world
  run = holds given is runnable (slot_of_main ends) (steps_of ends) world low (fits setup program (slot_of_main ends) (steps_of ends)).1 leads.run

  stands : EndStands given world run.state
  stands = record { leads = run.leads; words = run.stands.stands.words; passed = run.holds.scopes.root.passed }

  had : HaveStates cores world
  had = have_states unused merges (machine_of setup program) cores ends are of fit world leads.run

  scopes : ScopesStandInRuns given
  scopes slot steps end here all goes =
      let found : EndHolds given end = holds given is runnable slot steps end here all goes in
      record { names = found.holds.names; state = found.state; stands = found.holds.scopes }

  stops : StopsTell given (world_in world) entries
  stops = subst (λ (told : List Entry). StopsTell given (world_in world) told) (sym leads.told)
      (stop given sound scopes (slot_of_main ends) (steps_of ends) world low (fits setup program (slot_of_main ends) (steps_of ends)).1 leads.run)

  had_bodies : HaveBodies cores (world_in world)
  had_bodies core default here = ap (λ (it : states.Core). it.body) (sym (had core default here))

  rests : run.state.passed ≡ true → VectorsRest given (bodies (world_in world)) run.state.objects
  rests = rest given run.holds.ends run.holds.words (world_in world) run.state run.holds.reached run.stands.stands (record {
    lines = run.holds.lines;
    turns = run.holds.turns;
    lists = run.holds.lists;
    elements = run.holds.elements;
    planned = planned given (slot_of_main ends) (steps_of ends) world leads.run;
  })

  held : (outcome : Outcome) (gathered : List Content) → Concluded outcome cores → (outcome ≡ how.Ended → AreGathered cores 0 (shapes_of program) gathered)
      → outcome ≡ how.Ended → gathered ≡ contents_of run.state.objects
  held outcome gathered concluded all over =
      contents given cores (world_in world) run.state.objects gathered sound (record { len = are.len; of_machine = are.machine; numbered = are.number }) had_bodies stands.words
      (rests (some_passed given cores ends entries world run.state sound are of had stands stops (subst (λ (it : Outcome). Concluded it cores) over concluded)))
      (all over)

  ends_agree : (outcome : Outcome) (gathered : List Content) → Concluded outcome cores → (outcome ≡ how.Ended → AreGathered cores 0 (shapes_of program) gathered)
      → EndsAgree setup program outcome gathered entries ends
  ends_agree outcome gathered concluded all = record {
    state = run.state;
    leads = ap (λ (told : List Entry). final program setup.cores setup.steps told) leads.told ∙ run.leads;
    agrees = agree given cores ends entries world run.state sound are of had stands stops outcome gathered concluded (held outcome gathered concluded all);
  }

pub runs_agree : UnusedCoresRun → RunsMerge → ContentsStand → SetupsAreSound → SlotsOfRunsFit → GivenRunsHold → StopsTellInRuns → PassedRunsRest → RunsPutAsPlanned → laws.RunsAgree
runs_agree unused merges contents sounds fits holds stop rest planned setup program outcome gathered cores ends entries is runnable are of fit told concluded all =
    let found = world_led (machine_of setup program) ends entries told in
    ends_agree unused merges contents sounds fits holds stop rest planned setup program cores ends entries is runnable are of fit found.0 found.1 outcome gathered concluded all
