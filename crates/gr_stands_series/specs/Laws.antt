-- The laws of tasks that change in their slots, one after another.
use Rattle.std.specs.Prelude.{◌≡◌, ℕ, ◌<◌, List, [], Some}
use Rattle.gr_lang.specs.declared.action.WaitingCall.{WaitingCall}
use Rattle.gr_lang.specs.States.{State}
use Rattle.gr_view.specs.Places.{put}
use Rattle.gr_batch.specs.declared.wakes.Woken.{Woken}
use Rattle.gr_net.specs.Worlds.{Without}
use Rattle.gr_machine.specs.declared.waits.Waits.{Waits}
use Rattle.gr_machine.specs.States.{Letter}
use Rattle.gr_machine.specs.Outcomes.{Outcome, quietly, followed}
use Rattle.gr_machine.specs.Slots.{rewaiting, resumed_all}
use Rattle.gr_stands.specs.Worlds.{Given, machine_in, Core, World, bodies}
use Rattle.gr_stands.specs.Stands.{Stands}
use Rattle.gr_stands_calls.specs.Acting.{Keeps}
use Rattle.gr_stands_chains.specs.Chains.{ActsWithEntries}
use Rattle.gr_stands_series.specs.Lists.{IsPending, AllMayWait, AllMayGoOn}

-- The tasks of some calls wait for something else.
abbrev pub WaitsAreChanged : Type 0
WaitsAreChanged =
    (given : Given) (world : World) (state : State) (me : ℕ) (reason : Waits) (calls : List WaitingCall)
    → Stands given world state → me < given.setup.cores → IsPending reason → AllMayWait reason (bodies world me) calls
    → Keeps given world me [] (quietly (rewaiting (bodies world me) reason calls)) state

-- The tasks of some slots go on with their replies.
abbrev pub TasksAreResumed : Type 0
TasksAreResumed =
    (given : Given) (world : World) (state : State) (me : ℕ) (wakes : List Woken)
    → Stands given world state → me < given.setup.cores → AllMayGoOn (machine_in given) state (bodies world me) wakes
    → Keeps given world me [] (quietly (resumed_all (machine_in given) (bodies world me) wakes)) state
