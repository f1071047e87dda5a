-- The laws of what cores say of their stops.
use Rattle.std.specs.Prelude.{◌≡◌, ℕ, ◌<◌, List, Some}
use Rattle.gr_machine.specs.Histories.{history_of}
use Rattle.gr_machine.specs.GlobalRuns as runs
use Rattle.gr_machine.specs.GlobalRuns.{Step, global_run}
use Rattle.gr_machine.specs.Nets.{world_in}
use Rattle.gr_stands.specs.Worlds.{Given, machine_in, bodies}
use Rattle.gr_stands.specs.Stands.{IsSound}
use Rattle.gr_stands_histories.specs.Running.{AllSlotsFit}
use Rattle.gr_stands_stops.specs.Stops.{unstopped, stops_after, marks_at, HasScopes, StopsTell}

-- At the end of each run, whatever its schedule, the stops of each core are what its marks make of those before the first event.
abbrev pub StopsFollowMarks : Type 0
StopsFollowMarks =
    (given : Given) (slot : ℕ) (steps : List Step) (world : runs.World) → global_run (machine_in given) slot steps ≡ Some world
    → (core : ℕ) → (bodies (world_in world) core).stops ≡ stops_after unstopped (marks_at core world.marks)

-- A fact of the part of scopes, at the end of each run that takes slots that there are: its scopes are those of some plain state.
abbrev pub ScopesStandInRuns : Given → Type 0
ScopesStandInRuns given =
    (slot : ℕ) (steps : List Step) (world : runs.World) → slot < given.slots → AllSlotsFit given steps
    → global_run (machine_in given) slot steps ≡ Some world → HasScopes given (world_in world)

-- At the end of each such run what the cores say of their stops is what its history says.
abbrev pub StopsTellInRuns : Type 0
StopsTellInRuns =
    (given : Given) → IsSound given → ScopesStandInRuns given
    → (slot : ℕ) (steps : List Step) (world : runs.World) → slot < given.slots → AllSlotsFit given steps
    → global_run (machine_in given) slot steps ≡ Some world → StopsTell given (world_in world) (history_of world.marks)
