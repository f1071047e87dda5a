-- A task whose turn it is: to make a new task, or to open a scope.
use Rattle.std.specs.Prelude.{◌≡◌, ◌≢◌, ℕ, Some}
use Rattle.gr_lang.specs.States.{going}
use Rattle.gr_machine.specs.States.{Suspended, Body}
use Rattle.gr_stands.specs.Worlds.{World, bodies}
use Rattle.gr_stands.specs.Calls.{mode_of, is_told, is_asking, times}

-- The task stands in a slot of a core, before its next action as in the plain state. This body is the core's but for what the core counts of scopes, and the
-- slot isn't ready in it.
pub record IsTurn (world : World) (me slot : ℕ) (task : Suspended) (body : Body) : Type 0 where
  pub there : (bodies world me).tasks.slots slot ≡ Some task
  pub not_told : is_told task.waits ≡ 0
  pub not_asking : is_asking task.waits ≡ 0
  pub goes : mode_of task.waits task.action ≡ going
  pub slots : body.tasks.slots ≡ (bodies world me).tasks.slots
  pub next : body.tasks.next ≡ (bodies world me).tasks.next
  pub not_ready : times slot body.tasks.ready ≡ 0
  pub ready : (other : ℕ) → other ≢ slot → times other body.tasks.ready ≡ times other (bodies world me).tasks.ready
  pub work : body.work ≡ (bodies world me).work
  pub words : body.words ≡ (bodies world me).words
