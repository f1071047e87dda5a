-- The laws of valid states: runs open in one, steps and histories keep to them, and the work that is left under a scope which is passed next stands in that scope itself.
use Rattle.std.specs.Prelude.{◌≡◌, ℕ, ◌==◌, Bool, false, not, ◌&&◌, ◌||◌, ◌⊎◌, List, ◌∷◌, Some, slice_get}
use Rattle.std.specs.List.{list_any}
use Rattle.std.specs.Option.{option_map_or}
use Rattle.std.specs.FinMap as fin
use Rattle.gr_syntax.specs.declared.syntax.Program.{Program}
use Rattle.gr_lang.specs.declared.action.Entry.{Entry}
use Rattle.gr_lang.specs.declared.action.TaskId.{TaskId}
use Rattle.gr_lang.specs.States.{Task, State, has_ended, range_left, left, opening_state}
use Rattle.gr_lang.specs.Steps.{step}
use Rattle.gr_lang.specs.Histories.{final}
use Rattle.gr_valid.specs.Valid.{IsValid}

-- Whether the task stands in scope s and hasn't ended.
abbrev pub works_in : ℕ → Task → Bool
works_in scope task = not (has_ended task.mode) && task.scope == scope

-- Whether a task stands in scope s and hasn't ended.
abbrev pub has_task : State → ℕ → Bool
has_task state scope = list_any (works_in scope) (fin.values state.tasks)

-- Whether scope s is a loop of which an index hasn't begun.
abbrev pub has_index : State → ℕ → Bool
has_index state scope = option_map_or (λ x. range_left x.range) (slice_get state.scopes scope) false

-- The innermost scope that a task has opened: the one that it passes next.
pub record IsInnermost (state : State) (scope : ℕ) : Type 0 where
  pub id : TaskId
  pub task : Task
  pub there : fin.get state.tasks id ≡ Some task
  pub below : List ℕ
  pub opened : task.opened ≡ scope ∷ below

-- The scope is the root, or the innermost one of a task.
abbrev pub CanBePassed : State → ℕ → Type 0
CanBePassed state scope = (scope ≡ 0) ⊎ IsInnermost state scope

-- The state in which a run opens is valid.
abbrev pub OpensValid : Type 0
OpensValid = (program : Program) (limit : ℕ) → IsValid program (opening_state program limit)

-- A step of a valid state leads to a valid state.
abbrev pub StepsValid : Type 0
StepsValid = (program : Program) (cores limit : ℕ) (state after : State) (entry : Entry) → IsValid program state → step program cores limit state entry ≡ Some after → IsValid program after

-- The state that a history leads to is valid.
abbrev pub HistoriesValid : Type 0
HistoriesValid = (program : Program) (cores limit : ℕ) (history : List Entry) (state : State) → final program cores limit history ≡ Some state → IsValid program state

-- The work that is left under the root or an innermost scope is a task or an index in that scope itself.
abbrev pub WorkIsDirect : Type 0
WorkIsDirect = (program : Program) (state : State) (scope : ℕ) → IsValid program state → CanBePassed state scope → left state scope ≡ (has_task state scope || has_index state scope)
