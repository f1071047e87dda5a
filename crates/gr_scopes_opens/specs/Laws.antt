-- The laws of scopes that are opened, and of tasks that are made under them: each event keeps the part of scopes.
use Rattle.std.specs.Prelude.{◌≡◌, ℕ, ◌<◌, List, [], length, Some}
use Rattle.gr_lang.specs.declared.action.Action.TheVariants as action
use Rattle.gr_lang.specs.declared.action.How.{How}
use Rattle.gr_lang.specs.States.{State}
use Rattle.gr_lang.specs.Steps.{has_core}
use Rattle.gr_view.specs.Places.{put}
use Rattle.gr_machine.specs.States.{Suspended}
use Rattle.gr_machine.specs.Runs.{acts, without_ready}
use Rattle.gr_machine.specs.ScopeRuns.{own_scope}
use Rattle.gr_stands.specs.Worlds.{Given, machine_in, World, bodies}
use Rattle.gr_scopes.specs.Trees.{Holder, Names, tree_of, with_opened}
use Rattle.gr_scopes_opens.specs.Keeping.{KeepsScopes, StandsWith, IsNext}

-- The names with one more: that of the scope which this core opens next.
abbrev pub with_own : Names → State → World → ℕ → Names
with_own names state world me = put names (length state.scopes) (Some (own_scope me (bodies world me)))

-- Run: a task opens a finish.
abbrev pub FinishesKeepScopes : Type 0
FinishesKeepScopes =
    (given : Given) (names : Names) (world : World) (state : State) (me slot : ℕ) (more : List ℕ) (task : Suspended) (holder : Holder)
    → StandsWith given names world state → IsNext given world state me slot more task holder → task.action ≡ action.Finish
    → KeepsScopes given world me [] (acts (machine_in given) me (without_ready (bodies world me)) slot task task.action)
    (with_own names state world me) (with_opened (tree_of state) task.id holder)

-- Run: a task opens a loop over some indices.
abbrev pub LoopsKeepScopes : Type 0
LoopsKeepScopes =
    (given : Given) (names : Names) (world : World) (state : State) (me slot : ℕ) (more : List ℕ) (task : Suspended) (holder : Holder) (lo hi grain target : ℕ) (args : List ℕ)
    → StandsWith given names world state → IsNext given world state me slot more task holder → task.action ≡ action.Loop lo hi grain target args → lo < hi
    → KeepsScopes given world me [] (acts (machine_in given) me (without_ready (bodies world me)) slot task task.action)
    (with_own names state world me) (with_opened (tree_of state) task.id holder)
