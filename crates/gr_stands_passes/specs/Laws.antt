-- The laws of tasks that pass a scope, of cores that leave one, and of the program's end.
use Rattle.std.specs.Prelude.{◌≡◌, ℕ, ◌<◌, false, List, [], ◌∷◌, Some}
use Rattle.std.specs.FinMap as fin
use Rattle.gr_lang.specs.declared.action.Action.TheVariants as action
use Rattle.gr_lang.specs.declared.action.How.{How}
use Rattle.gr_lang.specs.declared.action.TrapKind.TheVariants as trap
use Rattle.gr_lang.specs.States.{Task, State, left}
use Rattle.gr_lang.specs.Steps.{has_core}
use Rattle.gr_msg.specs.declared.message.Msg.TheVariants as msg
use Rattle.gr_msg.specs.declared.message.ScopeId.{ScopeId}
use Rattle.gr_net.specs.Sums.{Each}
use Rattle.gr_machine.specs.States.{Letter, Suspended, Body}
use Rattle.gr_machine.specs.Outcomes.{Outcome}
use Rattle.gr_machine.specs.Runs.{acts, without_ready}
use Rattle.gr_machine.specs.ScopeRuns.{passes}
use Rattle.gr_machine.specs.ScopeServes.{over}
use Rattle.gr_machine.specs.Serves.{serves}
use Rattle.gr_stands.specs.Worlds.{Given, machine_in, World, bodies}
use Rattle.gr_stands.specs.Stands.{Stands}
use Rattle.gr_stands_calls.specs.Acting.{IsFirst, letter, IsFirstLetter, ActsWithEntry}
use Rattle.gr_stands_calls.specs.Rests.{IsOfNoTask}
use Rattle.gr_stands_chains.specs.Chains.{ActsWithEntries}
use Rattle.gr_stands_passes.specs.Passing.{CanPass, IsAtEnd, IsPlaced, LeaveTells}

-- A task passes its innermost scope, and goes on.
abbrev pub PassesAct : Type 0
PassesAct =
    (given : Given) (world : World) (state : State) (me slot : ℕ) (got : List Letter) (task : Suspended) (body : Body)
    → Stands given world state → me < given.setup.cores → IsPlaced world me slot task body → Each (λ letter. IsOfNoTask letter.message) got → IsAtEnd task
    → ((plain : Task) → fin.get state.tasks task.id ≡ Some plain → CanPass state plain)
    → ActsWithEntry given world state me got (Some (passes (machine_in given) body slot task))

-- Run: a ready task that spawns at a core that there isn't is trapped.
abbrev pub SpawnsAreTrapped : Type 0
SpawnsAreTrapped =
    (given : Given) (world : World) (state : State) (me slot : ℕ) (more : List ℕ) (task : Suspended) (way : How) (target : ℕ) (args : List ℕ)
    → Stands given world state → me < given.setup.cores → IsFirst world me slot more task → task.action ≡ action.Spawn way target args
    → has_core given.setup.cores way ≡ false
    → ActsWithEntry given world state me [] (Some (acts (machine_in given) me (without_ready (bodies world me)) slot task task.action))

-- The program ends, where no work is left.
abbrev pub ProgramsEnd : Type 0
ProgramsEnd =
    (given : Given) (world : World) (state : State) (me : ℕ) (got : List Letter) (scope : ScopeId)
    → Stands given world state → me < given.setup.cores → Each (λ letter. IsOfNoTask letter.message) got → state.passed ≡ false → left state 0 ≡ false
    → ActsWithEntry given world state me got (Some (over (bodies world me) scope))

-- Serve: a core leaves a scope, where that finds something to act on.
abbrev pub LeavesAreServed : Type 0
LeavesAreServed =
    (given : Given) (world : World) (state : State) (me from : ℕ) (scope : ScopeId) (outcome : Outcome)
    → Stands given world state → IsFirstLetter given world me from (msg.Leave scope) → LeaveTells world state me scope
    → serves (machine_in given) me (bodies world me) from (msg.Leave scope) ≡ Some outcome
    → ActsWithEntries given world state me (letter from (msg.Leave scope) ∷ []) (Some outcome)
