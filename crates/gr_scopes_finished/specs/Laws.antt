-- The laws of scopes of which nothing is counted.
use Rattle.std.specs.Prelude.{◌≡◌, ℕ, ◌<◌, false, List, ◌∷◌, Some}
use Rattle.gr_lang.specs.States.{State, left}
use Rattle.gr_valid.specs.Valid.{IsValid}
use Rattle.gr_valid.specs.Work.{has_task, CanBePassed}
use Rattle.gr_msg.specs.declared.message.ScopeId.{ScopeId}
use Rattle.gr_msg.specs.declared.message.Msg.TheVariants as msg
use Rattle.gr_event.specs.declared.masters.Master.{Master}
use Rattle.gr_machine.specs.declared.waits.Waits.TheVariants as wait
use Rattle.gr_machine.specs.States.{Suspended}
use Rattle.gr_stands.specs.Worlds.{Given, World, bodies}
use Rattle.gr_stands_calls.specs.Acting.{IsFirstLetter}
use Rattle.gr_scopes.specs.Trees.{Names}
use Rattle.gr_scopes.specs.Sums.{counted}
use Rattle.gr_scopes_opens.specs.Keeping.{StandsWith}
use Rattle.gr_scopes_finished.specs.Counted.{NoneCounted, IndicesTell}

-- No task of the plain state stands unended in a scope of which nothing is counted: each is in one place, where its core counts it.
abbrev pub TasksAreCounted : Type 0
TasksAreCounted =
    (given : Given) (names : Names) (world : World) (state : State) (number : ℕ) (scope : ScopeId)
    → StandsWith given names world state → names number ≡ Some scope → NoneCounted given world scope → has_task state number ≡ false

-- No work is left under it, where it can be passed.
abbrev pub ScopesAreFinished : Type 0
ScopesAreFinished =
    (given : Given) (names : Names) (world : World) (state : State) (number : ℕ) (scope : ScopeId)
    → StandsWith given names world state → IsValid given.program state → IndicesTell given names world state
    → names number ≡ Some scope → NoneCounted given world scope → CanBePassed state number → left state number ≡ false

-- Serve: the only core that is still active in a scope leaves it.
abbrev pub LastLeavesLeaveNone : Type 0
LastLeavesLeaveNone =
    (given : Given) (names : Names) (world : World) (state : State) (me from : ℕ) (scope : ScopeId) (master : Master)
    → StandsWith given names world state → IsFirstLetter given world me from (msg.Leave scope)
    → (bodies world me).scopes.masters scope ≡ Some master → master.active ≡ 1 → NoneCounted given world scope

-- Run: a task that is going on has opened a scope of which its core counts the task's own end alone, and no other core is active there.
abbrev pub LastArrivalsLeaveNone : Type 0
LastArrivalsLeaveNone =
    (given : Given) (names : Names) (world : World) (state : State) (me slot : ℕ) (task : Suspended) (scope : ScopeId) (outer : List ScopeId) (master : Master)
    → StandsWith given names world state → (bodies world me).tasks.slots slot ≡ Some task → task.waits ≡ wait.Going → task.opened ≡ scope ∷ outer
    → counted ((bodies world me).scopes.counts scope) ≡ 1 → (bodies world me).scopes.masters scope ≡ Some master → master.active ≡ 1
    → NoneCounted given world scope
