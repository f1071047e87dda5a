-- How a run ended, by its history and the clocks of its cores.
use Rattle.std.specs.Prelude.{◌≡◌, if◌then◌else◌, Option, Some, None}
use Rattle.gr_syntax.specs.declared.syntax.Program.{Program}
use Rattle.gr_lang.specs.Objects.{Objects}
use Rattle.gr_lang.specs.States.{State}
use Rattle.gr_lang.specs.Histories.{final}
use Rattle.gr_machine.specs.declared.setup.Setup.{Setup}
use Rattle.gr_report.specs.Ends.{first_limit}
use Rattle.gr_report.specs.Texts.{first_trap}
use Rattle.gr_memory.specs.Contents.{contents_of}
use Rattle.gr_report.specs.declared.texts.TrapAt.{TrapAt}
use Rattle.gr_report.specs.declared.ends.LimitAt.{LimitAt}
use Rattle.gr_engine.specs.declared.ending.Ending.{Ending}
use Rattle.gr_engine.specs.declared.ending.Ending.TheVariants as ending
use Rattle.gr_engine.specs.declared.ending.WorldEnd.{WorldEnd}

-- With these objects once the root scope was passed; with a first trap; with a first core at the limit of events; or with none of these.
pub data Ended : Type 0 where
  complete : Objects → Ended
  trapped : TrapAt → Ended
  limited : LimitAt → Ended
  stalled : Ended

-- Of a run that isn't complete.
abbrev pub ended_open : Option TrapAt → Option LimitAt → Ended
ended_open (Some trap) spent = trapped trap
ended_open None (Some at) = limited at
ended_open None None = stalled

abbrev pub ended_at : Option State → Ended → Ended
ended_at None otherwise = otherwise
ended_at (Some state) otherwise = if state.passed then complete state.objects else otherwise

-- How the run ended.
unfoldable pub ended_as : Setup → Program → WorldEnd → Ended
ended_as setup program world =
    ended_at (final program setup.cores setup.steps world.history) (ended_open (first_trap world.history) (first_limit setup.events world.cores))

-- What is told of the end: what the objects hold is what they hold in the plain memory; the trap or the core is that one.
abbrev pub IsEnding : Ending → Ended → Type 0
IsEnding (ending.Complete contents) (complete objects) = contents ≡ contents_of objects
IsEnding (ending.Trapped trap) (trapped first) = trap ≡ first
IsEnding (ending.Limited at) (limited first) = at ≡ first
IsEnding ending.Stalled stalled = Unit {0}
IsEnding _ _ = ⊥
