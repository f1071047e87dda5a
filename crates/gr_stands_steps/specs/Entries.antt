-- Outcomes whose marks have entries that lead on, and the step of a core with the entries of its marks.
use Rattle.std.specs.Prelude.{◌≡◌, ℕ, ◌<◌, List, ◌++◌, Some}
use Rattle.gr_lang.specs.States.{State}
use Rattle.gr_lang.specs.Histories.{after}
use Rattle.gr_merge.specs.GlobalRuns.{of_core}
use Rattle.gr_net.specs.Sums.{Each}
use Rattle.gr_machine.specs.declared.mark.Mark.{Mark}
use Rattle.gr_machine.specs.States.{Letter}
use Rattle.gr_machine.specs.Outcomes.{Outcome}
use Rattle.gr_machine.specs.Histories.{Sent}
use Rattle.gr_machine.specs.Steppers.{stamped}
use Rattle.gr_machine.specs.GlobalRuns as runs
use Rattle.gr_machine.specs.Nets.{world_in}
use Rattle.gr_stands.specs.Worlds.{Given, World, bodies}
use Rattle.gr_stands.specs.Stands.{Stands}
use Rattle.gr_stands_calls.specs.Acting.{Keeps}
use Rattle.gr_stands_chains.specs.Chains.{SendersStand}
use Rattle.gr_stands_events.specs.Laws.{WaitersAreCores}
use Rattle.gr_stands_outcomes.specs.Marks.{entries_from}

-- Where these batches have gone off, the outcome sends to cores that there are, and the entries of its marks lead to the plain state for which the world
-- stands then.
pub record ActsWithMarks (given : Given) (sent : Sent) (world : World) (state : State) (me : ℕ) (got : List Letter) (outcome : Outcome) : Type 0 where
  pub sends : Each (λ send. send.to < given.setup.cores) outcome.sends
  pub next : State
  pub leads : after given.program given.setup.cores given.setup.steps state (entries_from sent me outcome.marks) ≡ Some next
  pub keeps : Keeps given world me got outcome next

-- Each core that waits for units is one that there is, whichever it waits at.
abbrev pub WaitersStand : Given → World → Type 0
WaitersStand given world = (core : ℕ) → WaitersAreCores given (bodies world core)

-- The world stands for a plain state, each message in flight comes from a core that there is, and only such cores wait for units.
pub record StandsAmongCores (given : Given) (world : World) (state : State) : Type 0 where
  pub stands : Stands given world state
  pub senders : SendersStand given world
  pub waiters : WaitersStand given world

-- The step of a core leaves some marks, with the clock of its entry; their entries lead from the plain state for which the world stood to the one for which it
-- stands then.
pub record StepStands (given : Given) (before later : runs.World) (me clock : ℕ) (state : State) (sent : Sent) : Type 0 where
  pub marks : List Mark
  pub longer : later.marks ≡ before.marks ++ of_core me (stamped clock marks)
  pub next : State
  pub leads : after given.program given.setup.cores given.setup.steps state (entries_from sent me marks) ≡ Some next
  pub stands : StandsAmongCores given (world_in later) next
