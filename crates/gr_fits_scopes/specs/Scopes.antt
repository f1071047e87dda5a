-- Of the scopes that a task has opened, which are loops; and when no work is left in a scope.
use Rattle.std.specs.Prelude.{◌≡◌, ℕ, true, nat_le, nat_lt, List, [], ◌∷◌, drop, slice_get, Some, None}
use Rattle.std.specs.FinMap as fin
use Rattle.std.specs.FinSet as set
use Rattle.gr_lang.specs.declared.action.TaskId.{TaskId}
use Rattle.gr_lang.specs.States.{Mode, at_loop, ended, Task, Range, Scope, State}

-- A scope that has been opened, and is no loop.
pub record IsFinish (scopes : List Scope) (number : ℕ) : Type 0 where
  pub scope : Scope
  pub there : slice_get scopes number ≡ Some scope
  pub none : scope.range ≡ None

-- All of these are such.
abbrev pub AreFinishes : List Scope → List ℕ → Type 0
AreFinishes scopes [] = Unit
AreFinishes scopes (number ∷ outer) = IsFinish scopes number × AreFinishes scopes outer

-- The scopes that a task has opened, without the loop at which it waits.
abbrev pub without_loop : Mode → List ℕ → List ℕ
without_loop at_loop opened = drop 1 opened
without_loop _ opened = opened

-- Each task that stands in the scope has ended.
abbrev pub AllEndedIn : State → ℕ → Type 0
AllEndedIn state number = (id : TaskId) (task : Task) → fin.get state.tasks id ≡ Some task → task.scope ≡ number → task.mode ≡ ended

-- If the scope is a loop, each index of its range has begun.
abbrev pub AllBegunIn : State → ℕ → Type 0
AllBegunIn state number =
    (scope : Scope) (range : Range) → slice_get state.scopes number ≡ Some scope → scope.range ≡ Some range
    → (index : ℕ) → nat_le range.lo index ≡ true → nat_lt index range.hi ≡ true → set.contains range.begun index ≡ true

-- Each task has ended.
abbrev pub AllEnded : State → Type 0
AllEnded state = (id : TaskId) (task : Task) → fin.get state.tasks id ≡ Some task → task.mode ≡ ended
