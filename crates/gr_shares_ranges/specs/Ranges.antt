-- Loops of a plain state that are still waited at.
use Rattle.std.specs.Prelude.{◌≡◌, ◌⊎◌, ℕ, slice_get, Some}
use Rattle.gr_lang.specs.declared.action.TaskId.{TaskId}
use Rattle.gr_lang.specs.States.{Range, Scope, State}
use Rattle.gr_shares.specs.Loops.{Loop, loops_of}
use Rattle.gr_shares.specs.ShareActs.{AllBegun}

-- Some task waits at this loop.
pub record IsWaitedAt (state : State) (loop : Loop) : Type 0 where
  pub owner : TaskId
  pub there : loops_of state owner ≡ Some loop

-- A scope with a range is a loop at which a task waits, or all its indices have begun.
abbrev pub RangesStand : State → Type 0
RangesStand state =
    (number : ℕ) (scope : Scope) (range : Range) → slice_get state.scopes number ≡ Some scope → scope.range ≡ Some range
    → IsWaitedAt state (record { number = number; range = range }) ⊎ AllBegun (record { number = number; range = range })
