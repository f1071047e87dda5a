-- What the cores of a run say of its end, and what its history says.
use Rattle.std.specs.Prelude.{◌≡◌, true, false, List, Option, Some, None, is_some}
use Rattle.gr_syntax.specs.declared.syntax.Program.{Program}
use Rattle.gr_lang.specs.declared.action.Entry.{Entry}
use Rattle.gr_lang.specs.Histories.{final}
use Rattle.gr_lang.specs.States.{State}
use Rattle.gr_machine.specs.declared.core_end.CoreEnd.{CoreEnd}
use Rattle.gr_machine.specs.declared.setup.Setup.{Setup}
use Rattle.gr_machine.specs.Machines.{machine_of}
use Rattle.gr_core.specs.declared.cores.Core.{Core}
use Rattle.gr_memory.specs.declared.contents.Content.{Content}
use Rattle.gr_memory.specs.Contents.{contents_of}
use Rattle.gr_posts.specs.Posts.{IsSetup}
use Rattle.gr_report.specs.Ends.{first_limit}
use Rattle.gr_report.specs.declared.ends.LimitAt.{LimitAt}
use Rattle.gr_report.specs.Texts.{first_trap}
use Rattle.gr_report.specs.declared.texts.TrapAt.{TrapAt}
use Rattle.gr_round.specs.declared.outcomes.Outcome.{Outcome}
use Rattle.gr_round.specs.declared.outcomes.Outcome.TheVariants as how
use Rattle.gr_round.specs.Outcomes.{Concluded}
use Rattle.gr_runnable.specs.Runnable.{IsRunnable}
use Rattle.gr_world.specs.Worlds.{AreCores, AreEnds, AreEndsOf, IsHistoryOf}

-- The cores of a run with this outcome, and what they hold where it ended, say what its history says, after which the plain memory is in this state: it is complete
-- with these contents; or it isn't, and has a trap; or neither, and this is the first core whose clock has come to the limit; or none of these.
abbrev pub Agrees : Outcome → List Content → State → Option TrapAt → Option LimitAt → Type 0
Agrees how.Ended gathered state trap spent = (state.passed ≡ true) × (gathered ≡ contents_of state.objects)
Agrees how.Trapped gathered state trap spent = (state.passed ≡ false) × (is_some trap ≡ true)
Agrees (how.EventLimit core clock) gathered state trap spent =
    (state.passed ≡ false) × (trap ≡ None) × (spent ≡ Some (record { core = core; clock = clock }))
Agrees how.Stalled gathered state trap spent = (state.passed ≡ false) × (trap ≡ None) × (spent ≡ None)

-- The history of a run is legal: it leads to a plain state; and the cores say of its end what it says.
pub record EndsAgree (setup : Setup) (program : Program) (outcome : Outcome) (gathered : List Content) (entries : List Entry) (ends : List CoreEnd) : Type 0 where
  pub state : State
  pub leads : final program setup.cores setup.steps entries ≡ Some state
  pub agrees : Agrees outcome gathered state (first_trap entries) (first_limit setup.events ends)

-- The cores have ended a run of the program: they hold together what the objects hold in the plain memory after its history, which is complete.
abbrev pub HoldPlain : Program → List Core → List Content → Type 0
HoldPlain program cores held =
    (setup : Setup) (ends : List CoreEnd) (entries : List Entry) → IsSetup setup → IsRunnable program
    → AreCores (machine_of setup program) cores → AreEndsOf cores ends → AreEnds (machine_of setup program) ends → IsHistoryOf (machine_of setup program) ends entries
    → Concluded how.Ended cores
    → (state : State) × (final program setup.cores setup.steps entries ≡ Some state) × (state.passed ≡ true) × (held ≡ contents_of state.objects)
