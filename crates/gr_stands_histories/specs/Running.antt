-- What is told at each step of a run, and where steps lead.
use Rattle.std.specs.Prelude.{◌≡◌, ℕ, List, [], ◌∷◌, ◌++◌, Some}
use Rattle.gr_lang.specs.States.{State}
use Rattle.gr_lang.specs.Histories.{after, final}
use Rattle.gr_merge.specs.GlobalRuns.{goes_at}
use Rattle.gr_net.specs.Sums.{Each}
use Rattle.gr_machine.specs.declared.journal.StampedMark.{StampedMark}
use Rattle.gr_machine.specs.Histories.{Sent, history_from, history_of}
use Rattle.gr_machine.specs.Steppers.{kind_of, stepper}
use Rattle.gr_machine.specs.GlobalRuns as runs
use Rattle.gr_machine.specs.GlobalRuns.{Step}
use Rattle.gr_machine.specs.Nets.{world_in}
use Rattle.gr_stands.specs.Worlds.{Given, machine_in}
use Rattle.gr_stands_outcomes.specs.Marks.{sent_from}
use Rattle.gr_stands_steps.specs.Entries.{StandsAmongCores, StepStands}
use Rattle.gr_stands_steps.specs.Telling.{PartsTell, SlotsFit}

-- The slots of all steps are below the number that is given.
abbrev pub AllSlotsFit : Given → List Step → Type 0
AllSlotsFit given steps = Each (λ step. SlotsFit given step.1.slots) steps

-- The other parts tell what each of some steps needs, at its start, if it is made and all before it are: of the first of them at this world, which stands for
-- this plain state, and of the others at whatever world and state the first leads to. A part that is kept by each step tells so.
abbrev pub PartsTellOn : Given → Sent → runs.World → State → List Step → Type 0
PartsTellOn given sent world state [] = Unit
PartsTellOn given sent world state (step ∷ steps) =
    (later : runs.World) → goes_at (stepper (machine_in given)) (kind_of step.1.event) step.0 world step.1 ≡ Some later
    → PartsTell given sent (world_in world) state step.0
    × ((made : StepStands given world later step.0 step.1.clock state sent)
    → PartsTellOn given (sent_from sent step.0 made.marks) later made.next steps)

-- Some steps have led from one world to the other: the entries of their marks lead from the plain state for which that stood to the one for which this stands.
pub record LeadsOn (given : Given) (sent : Sent) (world later : runs.World) (state : State) : Type 0 where
  pub marks : List (ℕ × StampedMark)
  pub longer : later.marks ≡ world.marks ++ marks
  pub next : State
  pub leads : after given.program given.setup.cores given.setup.steps state (history_from sent marks) ≡ Some next
  pub stands : StandsAmongCores given (world_in later) next

-- The history of the marks of a world is legal, and the world stands for the plain state after it.
pub record RunStands (given : Given) (world : runs.World) : Type 0 where
  pub state : State
  pub leads : final given.program given.setup.cores given.setup.steps (history_of world.marks) ≡ Some state
  pub stands : StandsAmongCores given (world_in world) state

-- Before the first step no batch has gone off.
abbrev pub none_sent : Sent
none_sent core batch = []
