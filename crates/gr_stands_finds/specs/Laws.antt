-- The laws of what events find, and of what is released, in each run.
use Rattle.std.specs.Prelude.{◌≡◌, ℕ, ◌<◌, List, ◌∷◌, Some}
use Rattle.gr_lang.specs.declared.action.Action.TheVariants as action
use Rattle.gr_merge.specs.Machines.{inner}
use Rattle.gr_merge.specs.GlobalRuns.{goes_at}
use Rattle.gr_msg.specs.declared.message.Msg.TheVariants as msg
use Rattle.gr_msg.specs.declared.message.ScopeId.{ScopeId}
use Rattle.gr_event.specs.Counts.{left_of}
use Rattle.gr_event.specs.declared.counts.LocalLeft.TheVariants as rest
use Rattle.gr_event.specs.declared.masters.Master.{Master}
use Rattle.gr_machine.specs.declared.event.Event.TheVariants as event
use Rattle.gr_machine.specs.States.{Suspended}
use Rattle.gr_machine.specs.Steppers.{stepper}
use Rattle.gr_machine.specs.GlobalRuns as runs
use Rattle.gr_machine.specs.GlobalRuns.{Step, global_run}
use Rattle.gr_machine.specs.Nets.{world_in}
use Rattle.gr_stands.specs.Worlds.{Given, machine_in}
use Rattle.gr_stands.specs.Stands.{IsSound}
use Rattle.gr_stands_calls.specs.Acting.{IsFirst, IsFirstLetter}
use Rattle.gr_stands_events.specs.Laws.{entry_of}
use Rattle.gr_stands_histories.specs.Running.{AllSlotsFit}
use Rattle.gr_fits.specs.Reached.{RunsAccepted}
use Rattle.gr_fits_words.specs.Literals.{LiteralsFit}
use Rattle.gr_bounds_stands.specs.Telling.{HasFewSteps}
use Rattle.gr_stands_finds.specs.Vectors.{NamesVectors}
use Rattle.gr_stands_finds.specs.Finding.{FindsAll}
use Rattle.gr_stands_finds.specs.Releasing.{body_at, HasPassed, Releases}

-- A fact of the world to which each run leads, whatever its schedule, the slots of whose new tasks are below the number that is given.
abbrev pub InEachRun : Given → (runs.World → Type 0) → Type 0
InEachRun given Fact =
    IsSound given → RunsAccepted given → HasFewSteps given → LiteralsFit given.program
    → (slot : ℕ) (steps : List Step) (world : runs.World) → slot < given.slots → AllSlotsFit given steps
    → global_run (machine_in given) slot steps ≡ Some world → Fact world

-- At each moment of each run whatever comes first at a core finds what it acts on.
abbrev pub NothingFindsNothing : Type 0
NothingFindsNothing = (given : Given) → InEachRun given (λ world. FindsAll given (world_in world))

-- And each message of a turn or of an element is of a vector that there is.
abbrev pub MessagesNameVectors : Type 0
MessagesNameVectors = (given : Given) → InEachRun given (λ world. NamesVectors given (world_in world))

-- A Serve by which the last active core leaves a scope: whoever waits at its master is released.
abbrev pub LeavesRelease : Given → runs.World → Type 0
LeavesRelease given before =
    (after : runs.World) (core from clock : ℕ) (slots : List ℕ) (scope : ScopeId) (master : Master)
    → goes_at (stepper (machine_in given)) inner core before (entry_of event.Serve clock slots) ≡ Some after
    → IsFirstLetter given (world_in before) core from (msg.Leave scope)
    → (body_at before core).scopes.masters scope ≡ Some master → master.active ≡ 1
    → Releases before after core clock master

-- A Run by which a task arrives at the end of its finish, which its core, the only active one, leaves with that: the task passes.
abbrev pub ArrivalsPass : Given → runs.World → Type 0
ArrivalsPass given before =
    (after : runs.World) (core slot clock : ℕ) (more slots : List ℕ) (scope : ScopeId) (outer : List ScopeId) (master : Master) (task : Suspended)
    → goes_at (stepper (machine_in given)) inner core before (entry_of event.Run clock slots) ≡ Some after
    → IsFirst (world_in before) core slot more task → task.action ≡ action.Arrive → task.opened ≡ scope ∷ outer
    → left_of ((body_at before core).scopes.counts scope) 1 ≡ rest.Zero
    → (body_at before core).scopes.masters scope ≡ Some master → master.active ≡ 1
    → HasPassed before after core slot clock task

-- In each run, in the event in which a scope comes to have no active core.
abbrev pub ReleasesAtOnce : Type 0
ReleasesAtOnce = (given : Given) → InEachRun given (LeavesRelease given)

abbrev pub ArrivalsPassAtOnce : Type 0
ArrivalsPassAtOnce = (given : Given) → InEachRun given (ArrivalsPass given)
