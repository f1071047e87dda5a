-- The laws of tasks that have ended and of cores that leave scopes: each event acts and keeps the part of scopes.
use Rattle.std.specs.Prelude.{◌≡◌, ◌≢◌, ℕ, ◌<◌, List, [], ◌∷◌, Some, None}
use Rattle.gr_lang.specs.declared.action.Action.TheVariants as action
use Rattle.gr_lang.specs.States.{State}
use Rattle.gr_msg.specs.declared.message.ScopeId.{ScopeId}
use Rattle.gr_msg.specs.declared.message.Msg.TheVariants as msg
use Rattle.gr_event.specs.declared.masters.Master.{Master}
use Rattle.gr_event.specs.declared.masters.Waiter.TheVariants as waiter
use Rattle.gr_machine.specs.Serves.{serves}
use Rattle.gr_machine.specs.States.{Suspended}
use Rattle.gr_machine.specs.Runs.{acts, without_ready}
use Rattle.gr_stands.specs.Worlds.{Given, machine_in, World, bodies}
use Rattle.gr_stands_calls.specs.Acting.{IsFirst, letter, IsFirstLetter}
use Rattle.gr_scopes.specs.Trees.{Holder, Names, tree_of, with_passed, with_over}
use Rattle.gr_scopes_opens.specs.Keeping.{KeepsScopes, StandsWith}
use Rattle.gr_scopes_leaves.specs.Served.{KeepsMade}

-- Serve: tasks that this core counts have ended. It leaves the scope where none is left.
abbrev pub CompletesKeepScopes : Type 0
CompletesKeepScopes =
    (given : Given) (names : Names) (world : World) (state : State) (me from : ℕ) (scope : ScopeId) (tasks : ℕ)
    → StandsWith given names world state → IsFirstLetter given world me from (msg.Complete scope tasks)
    → KeepsMade given world me (letter from (msg.Complete scope tasks) ∷ []) (serves (machine_in given) me (bodies world me) from (msg.Complete scope tasks)) names (tree_of state)

-- Serve: a core has left a scope, and others are active in it.
abbrev pub LeavesKeepScopes : Type 0
LeavesKeepScopes =
    (given : Given) (names : Names) (world : World) (state : State) (me from : ℕ) (scope : ScopeId) (master : Master)
    → StandsWith given names world state → IsFirstLetter given world me from (msg.Leave scope)
    → (bodies world me).scopes.masters scope ≡ Some master → master.active ≢ 1
    → KeepsMade given world me (letter from (msg.Leave scope) ∷ []) (serves (machine_in given) me (bodies world me) from (msg.Leave scope)) names (tree_of state)

-- Serve: the last core has left a scope, and the task that waits for that passes.
abbrev pub WaitersPass : Type 0
WaitersPass =
    (given : Given) (names : Names) (world : World) (state : State) (me from : ℕ) (scope : ScopeId) (master : Master) (slot : ℕ) (task : Suspended) (holder : Holder)
    → StandsWith given names world state → IsFirstLetter given world me from (msg.Leave scope)
    → (bodies world me).scopes.masters scope ≡ Some master → master.active ≡ 1 → master.waiter ≡ Some (waiter.Task slot)
    → (bodies world me).tasks.slots slot ≡ Some task → (tree_of state).holders task.id ≡ Some holder
    → KeepsMade given world me (letter from (msg.Leave scope) ∷ []) (serves (machine_in given) me (bodies world me) from (msg.Leave scope))
    names (with_passed (tree_of state) task.id holder)

-- Serve: the last core has left the root scope, and the program has ended.
abbrev pub RunsEnd : Type 0
RunsEnd =
    (given : Given) (names : Names) (world : World) (state : State) (me from : ℕ) (scope : ScopeId) (master : Master)
    → StandsWith given names world state → IsFirstLetter given world me from (msg.Leave scope)
    → (bodies world me).scopes.masters scope ≡ Some master → master.active ≡ 1 → master.waiter ≡ Some waiter.Root
    → KeepsMade given world me (letter from (msg.Leave scope) ∷ []) (serves (machine_in given) me (bodies world me) from (msg.Leave scope))
    names (with_over (tree_of state))

-- Where a Leave comes, the scope has a master with an active core.
abbrev pub LeavesFindMasters : Type 0
LeavesFindMasters =
    (given : Given) (names : Names) (world : World) (state : State) (me from : ℕ) (scope : ScopeId)
    → StandsWith given names world state → IsFirstLetter given world me from (msg.Leave scope)
    → (master : Master) × ((bodies world me).scopes.masters scope ≡ Some master) × (0 < master.active)

-- Where the last core leaves a scope, somebody waits for that: the owner under way would be counted at the scope's home.
abbrev pub LastLeavesRelease : Type 0
LastLeavesRelease =
    (given : Given) (names : Names) (world : World) (state : State) (me from : ℕ) (scope : ScopeId) (master : Master)
    → StandsWith given names world state → IsFirstLetter given world me from (msg.Leave scope)
    → (bodies world me).scopes.masters scope ≡ Some master → master.active ≡ 1 → master.waiter ≢ None

-- Run: a task ends, and the core that counts it is told.
abbrev pub EndsKeepScopes : Type 0
EndsKeepScopes =
    (given : Given) (names : Names) (world : World) (state : State) (me slot : ℕ) (more : List ℕ) (task : Suspended)
    → StandsWith given names world state → me < given.setup.cores → IsFirst world me slot more task → task.action ≡ action.End
    → KeepsScopes given world me [] (acts (machine_in given) me (without_ready (bodies world me)) slot task task.action) names (tree_of state)
