-- The laws of vectors at the end of a run.
use Rattle.std.specs.Prelude.{◌≡◌, ℕ, List, true, Some}
use Rattle.gr_lang.specs.States.{State}
use Rattle.gr_vector.specs.declared.ends.Ends.{Ends}
use Rattle.gr_machine.specs.GlobalRuns as runs
use Rattle.gr_machine.specs.GlobalRuns.{Step, global_run}
use Rattle.gr_machine.specs.Nets.{world_in}
use Rattle.gr_stands.specs.Worlds.{Given, machine_in, World, bodies}
use Rattle.gr_stands.specs.Stands.{Stands}
use Rattle.gr_stands_contents.specs.Rests.{VectorsRest}
use Rattle.gr_fits.specs.Reached.{IsReached}
use Rattle.gr_elements_rests.specs.Laws.{RestStands, TurnsPutAsPlanned}

-- Where a legal history has passed the root scope, each word of each vector is at its home.
abbrev pub PassedRunsRest : Type 0
PassedRunsRest =
    (given : Given) (ends : ℕ → Ends) (words : ℕ → List ℕ) (world : World) (state : State)
    → IsReached given state → Stands given world state → RestStands given ends words world state → state.passed ≡ true
    → VectorsRest given (bodies world) state.objects

-- Under every schedule each turn of a run puts words only as its plan does.
abbrev pub RunsPutAsPlanned : Type 0
RunsPutAsPlanned =
    (given : Given) (slot : ℕ) (steps : List Step) (end : runs.World)
    → global_run (machine_in given) slot steps ≡ Some end → TurnsPutAsPlanned given (world_in end)
