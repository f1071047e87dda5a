-- The laws of whole runs.
use Rattle.std.specs.Prelude.{◌≡◌, ℕ, ◌<◌, List, Some}
use Rattle.gr_lang.specs.States.{State, opening_state}
use Rattle.gr_merge.specs.GlobalRuns.{fold_global}
use Rattle.gr_machine.specs.Histories.{Sent}
use Rattle.gr_machine.specs.Steppers.{stepper}
use Rattle.gr_machine.specs.GlobalRuns as runs
use Rattle.gr_machine.specs.GlobalRuns.{Step, opening_world, global_run}
use Rattle.gr_machine.specs.Nets.{world_in}
use Rattle.gr_stands.specs.Worlds.{Given, machine_in}
use Rattle.gr_stands.specs.Stands.{IsSound}
use Rattle.gr_stands_steps.specs.Entries.{StandsAmongCores}
use Rattle.gr_stands_histories.specs.Running.{AllSlotsFit, PartsTellOn, LeadsOn, RunStands, none_sent}

-- Before the first step no message is in flight and no core waits for units, and the machine stands for the opening state.
abbrev pub OpeningsStandAmongCores : Type 0
OpeningsStandAmongCores =
    (given : Given) (slot : ℕ) → IsSound given → slot < given.slots
    → StandsAmongCores given (world_in (opening_world (machine_in given) slot)) (opening_state given.program given.setup.steps)

-- Some steps from a world that stands for a plain state, where the other parts tell what each needs.
abbrev pub StepsLeadOn : Type 0
StepsLeadOn =
    (given : Given) (sent : Sent) (world later : runs.World) (state : State) (steps : List Step)
    → IsSound given → StandsAmongCores given (world_in world) state → AllSlotsFit given steps → PartsTellOn given sent world state steps
    → fold_global (stepper (machine_in given)) world steps ≡ Some later → LeadsOn given sent world later state

-- A global run: its history is legal, and its end stands for the plain state after it.
abbrev pub RunsStand : Type 0
RunsStand =
    (given : Given) (slot : ℕ) (steps : List Step) (world : runs.World)
    → IsSound given → slot < given.slots → AllSlotsFit given steps
    → PartsTellOn given none_sent (opening_world (machine_in given) slot) (opening_state given.program given.setup.steps) steps
    → global_run (machine_in given) slot steps ≡ Some world → RunStands given world
