-- Facts of the parts of scopes and of turns that a ready task needs to act.
use Rattle.std.specs.Prelude.{◌≡◌, ℕ, ◌<◌, true, false, nat_lt, List, ◌∷◌, length, Some, is_some}
use Rattle.std.specs.FinMap as fin
use Rattle.std.specs.FinSet as set
use Rattle.gr_lang.specs.declared.action.Action.TheVariants as action
use Rattle.gr_lang.specs.States.{at_loop, Task, State, left}
use Rattle.gr_lang.specs.Steps.{open_scope}
use Rattle.gr_msg.specs.declared.message.ScopeId.{ScopeId}
use Rattle.gr_event.specs.Counts.{left_of}
use Rattle.gr_event.specs.Masters.{released, release_of}
use Rattle.gr_event.specs.declared.counts.LocalLeft.TheVariants as rest
use Rattle.gr_event.specs.declared.masters.Waiter.{Waiter}
use Rattle.gr_event.specs.declared.masters.Release.TheVariants as release
use Rattle.gr_machine.specs.Machines.{thing}
use Rattle.gr_machine.specs.States.{Suspended}
use Rattle.gr_machine.specs.Openings.{is_vector}
use Rattle.gr_machine.specs.Slots.{innermost}
use Rattle.gr_machine.specs.Spawns.{can_enrol}
use Rattle.gr_machine.specs.ScopeRuns.{own_scope, is_new_scope, can_arrive, arrived}
use Rattle.gr_stands.specs.Worlds.{Given, machine_in, World, bodies}
use Rattle.gr_stands_passes.specs.Passing.{CanPass}

-- A fact of the part of turns: each core has each vector.
abbrev pub VectorsStand : Given → World → Type 0
VectorsStand given world = (core object : ℕ) → core < given.setup.cores → is_vector (thing (machine_in given) object) ≡ true → is_some ((bodies world core).vectors.vectors object) ≡ true

-- Facts of the part of scopes, where a task in a slot of a core comes to the end of a finish: the scope is counted there, its master is there, and nobody waits.
-- If it is the last there, and no other core is active, the plain task may pass.
pub record ArrivalTells (world : World) (state : State) (me slot : ℕ) (task : Suspended) : Type 0 where
  pub scope : ScopeId
  pub outer : List ScopeId
  pub opened : task.opened ≡ scope ∷ outer
  pub can : can_arrive (bodies world me) scope ≡ true
  pub passes : (who : Waiter) (plain : Task) → left_of ((bodies world me).scopes.counts scope) 1 ≡ rest.Zero
      → release_of (released ((arrived (bodies world me) scope slot).scopes.masters scope)) ≡ release.Released who
      → fin.get state.tasks task.id ≡ Some plain → CanPass state plain

-- Facts of the part of scopes of a ready task: its core may count a new one or ask whether it may; the scope that the core opens next is new; and no work is left
-- in a loop over nothing.
pub record ScopesTell (given : Given) (world : World) (state : State) (me slot : ℕ) (task : Suspended) : Type 0 where
  pub enrols : can_enrol (machine_in given) (innermost task) ((bodies world me).scopes.counts (innermost task)) ≡ true
  pub opens : is_new_scope (bodies world me) (own_scope me (bodies world me)) ≡ true
  pub arrives : task.action ≡ action.Arrive → ArrivalTells world state me slot task
  pub nothing : (lo hi grain target : ℕ) (args : List ℕ) (plain : Task) → task.action ≡ action.Loop lo hi grain target args → nat_lt lo hi ≡ false
      → fin.get state.tasks task.id ≡ Some plain
      → left (open_scope state task.id plain (record plain { mode = at_loop }) (Some (record { lo = lo; hi = hi; target = target; args = args; begun = set.empty })))
      (length state.scopes) ≡ false
