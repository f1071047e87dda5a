-- The laws of bounds: a run begins with them, each step keeps them, and what they tell.
use Rattle.std.specs.Prelude.{◌≡◌, ℕ, ◌+◌, ◌<◌, ◌^◌, true, List, length, Some, is_some}
use Rattle.gr_lang.specs.States.{State}
use Rattle.gr_merge.specs.GlobalRuns.{goes_at}
use Rattle.gr_msg.specs.declared.message.ScopeId.{ScopeId}
use Rattle.gr_machine.specs.declared.journal.Stamped.{Stamped}
use Rattle.gr_machine.specs.Steppers.{kind_of, stepper}
use Rattle.gr_machine.specs.GlobalRuns as runs
use Rattle.gr_machine.specs.GlobalRuns.{Step, global_run, opening_world}
use Rattle.gr_machine.specs.Nets.{world_in}
use Rattle.gr_machine.specs.Spawns.{can_enrol}
use Rattle.gr_machine.specs.ScopeServes.{can_enrol_one}
use Rattle.gr_stands.specs.Worlds.{Given, machine_in, World, bodies}
use Rattle.gr_stands.specs.Stands.{Stands}
use Rattle.gr_bounds_stands.specs.Standing.{BoundsStand, LoopsTell}
use Rattle.gr_bounds_stands.specs.Telling.{BoundsTell, HasFewSteps, PlainLoopsFit, AskersCall}

-- Before the first step the bounds stand.
abbrev pub OpeningsHaveBounds : Type 0
OpeningsHaveBounds = (given : Given) (slot : ℕ) → BoundsStand given (world_in (opening_world (machine_in given) slot)) 0

-- Each step keeps them, with one step more.
abbrev pub StepsKeepBounds : Type 0
StepsKeepBounds =
    (given : Given) (before after : runs.World) (me : ℕ) (entry : Stamped) (steps : ℕ)
    → goes_at (stepper (machine_in given)) (kind_of entry.event) me before entry ≡ Some after
    → LoopsTell given (world_in before) → BoundsStand given (world_in before) steps → BoundsStand given (world_in after) (steps + 1)

-- They tell all that, where there is a core and the steps are few.
abbrev pub BoundsAreTold : Type 0
BoundsAreTold = (given : Given) (world : World) (steps : ℕ) → 0 < given.setup.cores → steps + 1 < 2 ^ 63 → BoundsStand given world steps → BoundsTell given world

-- The steps of a run are.
abbrev pub RunsHaveFewSteps : Type 0
RunsHaveFewSteps =
    (given : Given) (slot : ℕ) (steps : List Step) (end : runs.World) → HasFewSteps given
    → global_run (machine_in given) slot steps ≡ Some end → length steps + 1 < 2 ^ 63

-- So a spawn is never dropped for the count of its scope, nor an Enrol for the number of active cores.
abbrev pub SpawnsMayCount : Type 0
SpawnsMayCount =
    (given : Given) (world : World) (me : ℕ) (scope : ScopeId) → BoundsTell given world → scope.core < given.setup.cores
    → can_enrol (machine_in given) scope ((bodies world me).scopes.counts scope) ≡ true

abbrev pub CoresMayEnrol : Type 0
CoresMayEnrol =
    (given : Given) (world : World) (me : ℕ) (scope : ScopeId) → BoundsTell given world
    → is_some ((bodies world me).scopes.masters scope) ≡ true → can_enrol_one ((bodies world me).scopes.masters scope) ≡ true

-- Where the world stands for a plain state, its loops are those of the plain state.
abbrev pub LoopsAreTold : Type 0
LoopsAreTold = (given : Given) (world : World) (state : State) → Stands given world state → PlainLoopsFit state → AskersCall world → LoopsTell given world
