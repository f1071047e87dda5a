-- The laws of all parts together.
use Rattle.std.specs.Prelude.{◌≡◌, ℕ, ◌<◌, ◌^◌, List, Some}
use Rattle.gr_machine.specs.GlobalRuns as runs
use Rattle.gr_machine.specs.GlobalRuns.{Step, global_run}
use Rattle.gr_machine.specs.Nets.{world_in}
use Rattle.gr_stands.specs.Worlds.{Given, machine_in}
use Rattle.gr_stands.specs.Stands.{IsSound}
use Rattle.gr_stands_histories.specs.Running.{AllSlotsFit}
use Rattle.gr_stands_histories.specs.Invariants.{IsInvariant, RunHolds}
use Rattle.gr_fits.specs.Reached.{RunsAccepted}
use Rattle.gr_fits_words.specs.Literals.{LiteralsFit}
use Rattle.gr_bounds_stands.specs.Telling.{HasFewSteps}
use Rattle.gr_bounds_tells.specs.Guards.{GuardsAreOpen}
use Rattle.gr_stands_parts.specs.Parts.{BoundsAfter, PartsRest, PartsGoOn}

-- All parts together hold before the first step, tell what a step needs, and are kept by each of its pieces.
abbrev pub PartsAreInvariant : Type 0
PartsAreInvariant =
    (given : Given) (most : ℕ) → IsSound given → RunsAccepted given → most < 2 ^ 63 → LiteralsFit given.program
    → IsInvariant given most (BoundsAfter given) (PartsRest given) (PartsGoOn given)

-- Under every schedule the history of a run is legal, and the machine stands for the plain memory after it, with all parts.
abbrev pub RunsAreHistories : Type 0
RunsAreHistories =
    (given : Given) → IsSound given → RunsAccepted given → HasFewSteps given → LiteralsFit given.program
    → (slot : ℕ) (steps : List Step) (world : runs.World) → slot < given.slots → AllSlotsFit given steps
    → global_run (machine_in given) slot steps ≡ Some world → RunHolds given (PartsRest given) world

-- And no number in it wraps: no guard against that drops anything.
abbrev pub RunsStayInBounds : Type 0
RunsStayInBounds =
    (given : Given) → IsSound given → RunsAccepted given → HasFewSteps given → LiteralsFit given.program
    → (slot : ℕ) (steps : List Step) (world : runs.World) → slot < given.slots → AllSlotsFit given steps
    → global_run (machine_in given) slot steps ≡ Some world → GuardsAreOpen given (world_in world)
