-- The laws of tasks that are made: a core counts one more of their scope, or asks whether it may.
use Rattle.std.specs.Prelude.{◌≡◌, ℕ, ◌^◌, true, nat_lt, List, [], Some, None}
use Rattle.gr_lang.specs.declared.action.Action.TheVariants as action
use Rattle.gr_lang.specs.declared.action.How.{How}
use Rattle.gr_lang.specs.States.{State, innermost_of}
use Rattle.gr_lang.specs.Steps.{has_core}
use Rattle.gr_event.specs.declared.counts.LocalCount.TheVariants as count
use Rattle.gr_machine.specs.States.{Suspended}
use Rattle.gr_machine.specs.Runs.{acts, without_ready}
use Rattle.gr_machine.specs.Slots.{own_id, innermost}
use Rattle.gr_stands.specs.Worlds.{Given, machine_in, World, bodies}
use Rattle.gr_scopes.specs.Trees.{Holder, Names, tree_of, with_task}
use Rattle.gr_scopes_opens.specs.Keeping.{KeepsScopes, StandsWith, IsNext}

-- The first ready task of a core makes a new one, at a core that there is.
pub record IsSpawning (given : Given) (names : Names) (world : World) (state : State) (me slot : ℕ) (more : List ℕ) (task : Suspended) (holder : Holder) (way : How) (target : ℕ) (args : List ℕ) : Type 0 where
  pub stands : StandsWith given names world state
  pub next : IsNext given world state me slot more task holder
  pub action : task.action ≡ action.Spawn way target args
  pub core : has_core given.setup.cores way ≡ true

-- Run: its core counts its innermost scope, and one task more.
abbrev pub SpawnsKeepScopes : Type 0
SpawnsKeepScopes =
    (given : Given) (names : Names) (world : World) (state : State) (me slot : ℕ) (more : List ℕ) (task : Suspended) (holder : Holder) (way : How) (target : ℕ) (args : List ℕ) (tasks : ℕ)
    → IsSpawning given names world state me slot more task holder way target args
    → (bodies world me).scopes.counts (innermost task) ≡ Some (count.Active tasks) → nat_lt tasks (2 ^ 127) ≡ true
    → KeepsScopes given world me [] (acts (machine_in given) me (without_ready (bodies world me)) slot task task.action)
    names (with_task (tree_of state) (own_id me (bodies world me)) (innermost_of holder.scope holder.opened))

-- Run: its core doesn't count that scope, and asks whether it may.
abbrev pub EnrolmentsAreAsked : Type 0
EnrolmentsAreAsked =
    (given : Given) (names : Names) (world : World) (state : State) (me slot : ℕ) (more : List ℕ) (task : Suspended) (holder : Holder) (way : How) (target : ℕ) (args : List ℕ)
    → IsSpawning given names world state me slot more task holder way target args
    → (bodies world me).scopes.counts (innermost task) ≡ None
    → KeepsScopes given world me [] (acts (machine_in given) me (without_ready (bodies world me)) slot task task.action) names (tree_of state)

-- Run: its core has asked, and the task waits behind others.
abbrev pub EnrolmentsWait : Type 0
EnrolmentsWait =
    (given : Given) (names : Names) (world : World) (state : State) (me slot : ℕ) (more : List ℕ) (task : Suspended) (holder : Holder) (way : How) (target : ℕ) (args slots : List ℕ)
    → IsSpawning given names world state me slot more task holder way target args
    → (bodies world me).scopes.counts (innermost task) ≡ Some (count.Waits slots)
    → KeepsScopes given world me [] (acts (machine_in given) me (without_ready (bodies world me)) slot task task.action) names (tree_of state)
