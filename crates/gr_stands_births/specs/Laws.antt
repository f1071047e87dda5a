-- The laws of tasks that are made, start, or open a scope: the parts of words and of calls.
use Rattle.std.specs.Prelude.{◌≡◌, ℕ, ◌<◌, true, List, [], Some, None}
use Rattle.gr_lang.specs.declared.action.Action.TheVariants as action
use Rattle.gr_lang.specs.declared.action.How.{How}
use Rattle.gr_lang.specs.declared.action.TaskId.{TaskId}
use Rattle.gr_lang.specs.States.{State}
use Rattle.gr_lang.specs.Steps.{has_core}
use Rattle.gr_msg.specs.declared.message.ScopeId.{ScopeId}
use Rattle.gr_msg.specs.declared.message.Unit.TheVariants as unit
use Rattle.gr_machine.specs.States.{Suspended, Body}
use Rattle.gr_machine.specs.Runs.{first_unit, without_unit, without_ready, run_unit}
use Rattle.gr_machine.specs.ScopeRuns.{finishes_in, loops_in}
use Rattle.gr_machine.specs.Spawns.{planted}
use Rattle.gr_stands.specs.Worlds.{Given, machine_in, World, bodies}
use Rattle.gr_stands.specs.Actions.{ActionFits}
use Rattle.gr_stands.specs.Stands.{Stands}
use Rattle.gr_stands_calls.specs.Acting.{IsFirst, ActsQuietly, ActsWithEntry}
use Rattle.gr_stands_births.specs.Turning.{IsTurn}

-- The first ready task has its turn, once its slot is ready no more.
abbrev pub FirstsHaveTheirTurn : Type 0
FirstsHaveTheirTurn =
    (given : Given) (world : World) (state : State) (me slot : ℕ) (more : List ℕ) (task : Suspended)
    → Stands given world state → IsFirst world me slot more task → IsTurn world me slot task (without_ready (bodies world me))

-- A task makes a new one, at a core that there is: the new task is a unit, in the plain state it has done nothing.
abbrev pub SpawnsAreMade : Type 0
SpawnsAreMade =
    (given : Given) (world : World) (state : State) (me slot : ℕ) (task : Suspended) (body : Body) (way : How) (target : ℕ) (args : List ℕ)
    → Stands given world state → me < given.setup.cores → IsTurn world me slot task body → task.action ≡ action.Spawn way target args
    → ActionFits (machine_in given) task.action → has_core given.setup.cores way ≡ true
    → ActsWithEntry given world state me [] (Some (planted (machine_in given) me body slot task way target args))

-- Run: where no slot is ready, a unit that is one task starts in a slot that is free.
abbrev pub SinglesStart : Type 0
SinglesStart =
    (given : Given) (world : World) (state : State) (me slot target : ℕ) (args : List ℕ) (scope : ScopeId) (origin : ℕ) (id : TaskId)
    → Stands given world state → me < given.setup.cores → (bodies world me).tasks.ready ≡ []
    → first_unit (bodies world me) ≡ Some (unit.Single target args scope origin id) → (bodies world me).tasks.slots slot ≡ None → slot < given.slots
    → ActsQuietly given world state me [] (run_unit (machine_in given) me (without_unit (bodies world me)) slot (first_unit (bodies world me)))

-- Run: a task opens a finish, and goes on in it.
abbrev pub FinishesOpen : Type 0
FinishesOpen =
    (given : Given) (world : World) (state : State) (me slot : ℕ) (task : Suspended) (body : Body) (scope : ScopeId)
    → Stands given world state → me < given.setup.cores → IsTurn world me slot task body → task.action ≡ action.Finish
    → ActsWithEntry given world state me [] (Some (finishes_in (machine_in given) body slot task scope))

-- Run: a task opens a loop, and waits at it. The whole range is a unit.
abbrev pub LoopsOpen : Type 0
LoopsOpen =
    (given : Given) (world : World) (state : State) (me slot : ℕ) (task : Suspended) (body : Body) (scope : ScopeId) (lo hi grain target : ℕ) (args : List ℕ)
    → Stands given world state → me < given.setup.cores → IsTurn world me slot task body → task.action ≡ action.Loop lo hi grain target args
    → ActsWithEntry given world state me [] (Some (loops_in me body slot task lo hi grain target args scope))
