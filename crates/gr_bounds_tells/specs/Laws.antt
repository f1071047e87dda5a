-- The laws of what bounds tell: of a world after some steps, and of each run within its limits.
use Rattle.std.specs.Prelude.{◌≡◌, ℕ, ◌+◌, ◌<◌, ◌^◌, List, length, Some}
use Rattle.gr_machine.specs.GlobalRuns as runs
use Rattle.gr_machine.specs.GlobalRuns.{Step, global_run}
use Rattle.gr_machine.specs.Nets.{world_in}
use Rattle.gr_stands.specs.Worlds.{Given, machine_in, World}
use Rattle.gr_stands_histories.specs.Running.{AllSlotsFit}
use Rattle.gr_lines_steps.specs.Behind.{GrantsTell}
use Rattle.gr_bounds_stands.specs.Standing.{BoundsStand}
use Rattle.gr_bounds_stands.specs.Telling.{HasFewSteps}
use Rattle.gr_bounds_tells.specs.Guards.{GuardsAreOpen, LoopsTellInRuns}

-- After few steps what a granted turn pushes has room.
abbrev pub GrantsAreTold : Type 0
GrantsAreTold = (given : Given) (world : World) (steps : ℕ) → steps + 1 < 2 ^ 63 → BoundsStand given world steps → (core : ℕ) → GrantsTell given world core

-- And no guard drops anything.
abbrev pub GuardsStandOpen : Type 0
GuardsStandOpen =
    (given : Given) (world : World) (steps : ℕ) → 0 < given.setup.cores → steps + 1 < 2 ^ 63 → BoundsStand given world steps → GuardsAreOpen given world

-- Bounds stand at the end of a run, with the number of its steps.
abbrev pub RunsHaveBounds : Type 0
RunsHaveBounds =
    (given : Given) (slot : ℕ) (steps : List Step) (end : runs.World) → AllSlotsFit given steps → LoopsTellInRuns given slot
    → global_run (machine_in given) slot steps ≡ Some end → BoundsStand given (world_in end) (length steps)

-- In a run within its limits no guard drops anything.
abbrev pub RunsDropNothing : Type 0
RunsDropNothing =
    (given : Given) (slot : ℕ) (steps : List Step) (end : runs.World) → 0 < given.setup.cores → HasFewSteps given → AllSlotsFit given steps
    → LoopsTellInRuns given slot → global_run (machine_in given) slot steps ≡ Some end → GuardsAreOpen given (world_in end)
