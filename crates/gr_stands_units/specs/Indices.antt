-- When an index of a chunk may begin.
use Rattle.std.specs.Prelude.{◌≡◌, ℕ, ◌<◌, true, false, nat_lt, nat_le, List, ◌∷◌, slice_get, Some}
use Rattle.std.specs.FinMap as fin
use Rattle.std.specs.FinSet as set
use Rattle.gr_lang.specs.declared.action.TaskId.{TaskId}
use Rattle.gr_lang.specs.States.{at_loop, Task, Range, Scope, State}
use Rattle.gr_msg.specs.declared.message.Unit.{Unit as WorkUnit}
use Rattle.gr_msg.specs.declared.message.Unit.TheVariants as unit
use Rattle.gr_stands.specs.Worlds.{Given}

-- A fact of the part of work: in the plain state the owner waits at its innermost scope, a loop that starts such a task with these words, and the index is one
-- of its range that hasn't begun.
pub record IsIndex (state : State) (owner : TaskId) (target : ℕ) (args : List ℕ) (index : ℕ) : Type 0 where
  pub task : Task
  pub there : fin.get state.tasks owner ≡ Some task
  pub waits : task.mode ≡ at_loop
  pub number : ℕ
  pub outer : List ℕ
  pub opened : task.opened ≡ number ∷ outer
  pub scope : Scope
  pub placed : slice_get state.scopes number ≡ Some scope
  pub range : Range
  pub ranged : scope.range ≡ Some range
  pub low : nat_le range.lo index ≡ true
  pub high : nat_lt index range.hi ≡ true
  pub new : set.contains range.begun index ≡ false
  pub targets : range.target ≡ target
  pub words : range.args ≡ args

-- Facts of the part of work, of a unit: a chunk is of a loop's indices, of which the first may begin, and their ends are counted at a core.
abbrev pub UnitTells : Given → State → WorkUnit → Type 0
UnitTells given state (unit.Single target args scope origin id) = Unit
UnitTells given state (unit.Chunk target args scope origin owner lo hi grain) = IsIndex state owner target args lo × (origin < given.setup.cores)
