-- What holds of every state that a history leads to: each task has opened its scopes one inside the other, and what isn't finished stands in a scope that isn't passed.
use Rattle.std.specs.Prelude.{◌≡◌, ◌≢◌, ℕ, suc, ◌+◌, ◌<◌, ◌==◌, ◌⊎◌, true, All, List, [], ◌∷◌, length, slice_get, Some}
use Rattle.std.specs.List.{list_any}
use Rattle.std.specs.FinMap as fin
use Rattle.gr_syntax.specs.declared.syntax.Program.{Program}
use Rattle.gr_lang.specs.declared.action.Action.{Action}
use Rattle.gr_lang.specs.declared.action.Action.TheVariants as action
use Rattle.gr_lang.specs.declared.action.TaskId.{TaskId}
use Rattle.gr_lang.specs.Next.{Running, Todo, run, arrive, look, acts}
use Rattle.gr_lang.specs.States.{Mode, at_loop, ended, Task, Scope, State, root, innermost_of, range_left}

-- The number of ends of `finish` that are still to do.
abbrev pub arrives : List Todo → ℕ
arrives [] = 0
arrives (arrive ∷ rest) = suc (arrives rest)
arrives (run s ∷ rest) = arrives rest

-- The action is a trap.
abbrev pub IsTrap : Action → Type 0
IsTrap (action.Trap kind) = Unit {0}
IsTrap _ = ⊥

-- The action opens a loop.
abbrev pub IsLoop : Action → Type 0
IsLoop (action.Loop lo hi grain target args) = Unit {0}
IsLoop _ = ⊥

-- The action is what stands first, or it is a trap.
abbrev pub StandsAt : Program → Running → Action → Type 0
StandsAt program task action = (look program task ≡ acts action) ⊎ IsTrap action

-- A scope of this task, opened while these scopes of it stood open in scope `own`: its parent is the innermost of them, and they are older.
pub record IsOpened (scopes : List Scope) (id : TaskId) (own : ℕ) (s : ℕ) (below : List ℕ) : Type 0 where
  pub scope : Scope
  pub there : slice_get scopes s ≡ Some scope
  pub owner : scope.owner ≡ Some id
  pub parent : scope.parent ≡ innermost_of own below
  pub newer : All (λ k. k < s) below

-- The scopes that a task has opened and not passed, the innermost first.
abbrev pub AreOpened : List Scope → TaskId → ℕ → List ℕ → Type 0
AreOpened scopes id own [] = Unit {0}
AreOpened scopes id own (s ∷ outer) = IsOpened scopes id own s outer × AreOpened scopes id own outer

-- Loops count as an end that is still to do, while the task waits there.
abbrev pub waits : Mode → ℕ
waits at_loop = 1
waits _ = 0

-- A task stands at its action, and has a scope open for each end that it has still to do; where it has ended it has none.
pub record IsValidTask (program : Program) (scopes : List Scope) (id : TaskId) (task : Task) : Type 0 where
  pub stands : StandsAt program task.running task.action
  pub loops : task.mode ≡ at_loop → IsLoop task.action
  pub opened : AreOpened scopes id task.scope task.opened
  pub level : arrives task.running.todo + waits task.mode ≡ length task.opened
  pub over : task.mode ≡ ended → task.opened ≡ []

-- Some task has opened the scope and not passed it.
pub record IsOpen (state : State) (s : ℕ) : Type 0 where
  pub id : TaskId
  pub task : Task
  pub there : fin.get state.tasks id ≡ Some task
  pub opened : list_any (λ k. k == s) task.opened ≡ true

-- The root is there, each task is valid, and what isn't finished stands in a scope that is open.
pub record IsValid (program : Program) (state : State) : Type 0 where
  pub root : slice_get state.scopes 0 ≡ Some root
  pub tasks : (id : TaskId) (task : Task) → fin.get state.tasks id ≡ Some task → IsValidTask program state.scopes id task
  -- a task that hasn't ended stands in the root or in a scope that is open
  pub held : (id : TaskId) (task : Task) → fin.get state.tasks id ≡ Some task → task.mode ≢ ended → (task.scope ≡ 0) ⊎ IsOpen state task.scope
  -- a loop of which an index hasn't begun is open
  pub ranges : (s : ℕ) (x : Scope) → slice_get state.scopes s ≡ Some x → range_left x.range ≡ true → IsOpen state s
