-- The laws of Run, where a slot is ready.
use Rattle.std.specs.Prelude.{◌≡◌, ℕ, ◌<◌, List, [], Some}
use Rattle.gr_lang.specs.declared.action.Action.TheVariants as action
use Rattle.gr_lang.specs.declared.action.Op.{Op}
use Rattle.gr_lang.specs.States.{State}
use Rattle.gr_machine.specs.States.{Suspended}
use Rattle.gr_machine.specs.Runs.{acts, without_ready}
use Rattle.gr_stands.specs.Worlds.{Given, machine_in, World, bodies}
use Rattle.gr_stands.specs.Actions.{CallFits, ActionFits}
use Rattle.gr_stands.specs.Stands.{IsSound, Stands}
use Rattle.gr_stands_calls.specs.Acting.{IsFirst, ActsQuietly}
use Rattle.gr_stands_chains.specs.Chains.{ActsWithEntries}
use Rattle.gr_stands_runs.specs.Telling.{VectorsStand, ScopesTell}

-- Run: a ready task makes a call, whichever it is.
abbrev pub CallsRun : Type 0
CallsRun =
    (given : Given) (world : World) (state : State) (me slot : ℕ) (more : List ℕ) (task : Suspended) (call : Op)
    → IsSound given → Stands given world state → me < given.setup.cores → IsFirst world me slot more task → VectorsStand given world
    → task.action ≡ action.Call call → CallFits (machine_in given) call
    → ActsQuietly given world state me [] (Some (acts (machine_in given) me (without_ready (bodies world me)) slot task task.action))

-- Run: a ready task acts, whatever its action.
abbrev pub TasksRun : Type 0
TasksRun =
    (given : Given) (world : World) (state : State) (me slot : ℕ) (more : List ℕ) (task : Suspended)
    → IsSound given → Stands given world state → me < given.setup.cores → IsFirst world me slot more task → VectorsStand given world
    → ScopesTell given world state me slot task → ActionFits (machine_in given) task.action
    → ActsWithEntries given world state me [] (Some (acts (machine_in given) me (without_ready (bodies world me)) slot task task.action))
