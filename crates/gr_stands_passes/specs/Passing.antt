-- When a task may pass its innermost scope, in a slot of the machine and in the plain state; and what a core that leaves a scope must know.
use Rattle.std.specs.Prelude.{◌≡◌, ◌≢◌, ◌⊎◌, ℕ, false, List, ◌∷◌, Some}
use Rattle.std.specs.FinMap as fin
use Rattle.gr_lang.specs.declared.action.Action.TheVariants as action
use Rattle.gr_lang.specs.States.{going, at_loop, Task, State, left}
use Rattle.gr_msg.specs.declared.message.ScopeId.{ScopeId}
use Rattle.gr_event.specs.Masters.{released, release_of}
use Rattle.gr_event.specs.declared.masters.Waiter.TheVariants as waiter
use Rattle.gr_event.specs.declared.masters.Release.TheVariants as release
use Rattle.gr_machine.specs.States.{Suspended, Body}
use Rattle.gr_stands.specs.Worlds.{World, bodies}
use Rattle.gr_stands.specs.Calls.{mode_of, is_told, is_asking, times}

-- A fact of the part of scopes: the plain task has a scope open, and no work is left under the innermost one.
pub record CanPass (state : State) (plain : Task) : Type 0 where
  pub scope : ℕ
  pub outer : List ℕ
  pub opened : plain.opened ≡ scope ∷ outer
  pub finished : left state scope ≡ false

-- The task stands at its loop, or at the end of a finish.
abbrev pub IsAtEnd : Suspended → Type 0
IsAtEnd task = (mode_of task.waits task.action ≡ at_loop) ⊎ ((mode_of task.waits task.action ≡ going) × (task.action ≡ action.Arrive))

-- The task stands in a slot of a core, of which the plain state has it as it is. This body is the core's but for what the core counts of scopes, and the slot
-- isn't ready in it.
pub record IsPlaced (world : World) (me slot : ℕ) (task : Suspended) (body : Body) : Type 0 where
  pub there : (bodies world me).tasks.slots slot ≡ Some task
  pub not_told : is_told task.waits ≡ 0
  pub not_asking : is_asking task.waits ≡ 0
  pub slots : body.tasks.slots ≡ (bodies world me).tasks.slots
  pub next : body.tasks.next ≡ (bodies world me).tasks.next
  pub not_ready : times slot body.tasks.ready ≡ 0
  pub ready : (other : ℕ) → other ≢ slot → times other body.tasks.ready ≡ times other (bodies world me).tasks.ready
  pub work : body.work ≡ (bodies world me).work
  pub words : body.words ≡ (bodies world me).words

-- Facts of the part of scopes, where the last core leaves a scope: the task that waits there may pass; or the program hasn't ended, and no work is left at all.
pub record LeaveTells (world : World) (state : State) (me : ℕ) (scope : ScopeId) : Type 0 where
  pub task : (slot : ℕ) (task : Suspended) → release_of (released ((bodies world me).scopes.masters scope)) ≡ release.Released (waiter.Task slot)
      → (bodies world me).tasks.slots slot ≡ Some task
      → IsAtEnd task × ((plain : Task) → fin.get state.tasks task.id ≡ Some plain → CanPass state plain)
  pub root : release_of (released ((bodies world me).scopes.masters scope)) ≡ release.Released waiter.Root → (state.passed ≡ false) × (left state 0 ≡ false)
