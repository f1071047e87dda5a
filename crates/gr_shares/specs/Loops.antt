-- What the part of work looks at in a plain state: the loops at which tasks wait, with the indices that have begun.
use Rattle.std.specs.Prelude.{◌≡◌, ℕ, ◌&&◌, true, nat_le, nat_lt, if◌then◌else◌, List, [], ◌∷◌, slice_get, Option, Some, None}
use Rattle.std.specs.Option.{option_and_then}
use Rattle.std.specs.FinMap as fin
use Rattle.std.specs.FinSet as set
use Rattle.gr_lang.specs.declared.action.TaskId.{TaskId}
use Rattle.gr_lang.specs.States.{Task, Range, Scope, State, is_at_loop}

-- A loop: the number of its scope, and its range.
pub record Loop : Type 0 where
  pub number : ℕ
  pub range : Range

-- The loop at which each task waits, by the task's name.
abbrev pub Loops : Type 0
Loops = TaskId → Option Loop

abbrev pub loop_of : ℕ → Option Range → Option Loop
loop_of number None = None
loop_of number (Some range) = Some (record { number = number; range = range })

-- The loop of the innermost of these scopes.
abbrev pub loop_in : List Scope → List ℕ → Option Loop
loop_in scopes [] = None
loop_in scopes (number ∷ outer) = option_and_then (λ scope. loop_of number scope.range) (slice_get scopes number)

abbrev pub waits_at : List Scope → Task → Option Loop
waits_at scopes task = if is_at_loop task.mode then loop_in scopes task.opened else None

abbrev pub loops_of : State → Loops
loops_of state owner = option_and_then (waits_at state.scopes) (fin.get state.tasks owner)

-- 1 for an index from lo to below hi.
unfoldable pub within : ℕ → ℕ → ℕ → ℕ
within lo hi index = if nat_le lo index && nat_lt index hi then 1 else 0

-- 1 for an index of the range that hasn't begun.
abbrev pub left_in : Range → ℕ → ℕ
left_in range index = if set.contains range.begun index then 0 else within range.lo range.hi index

abbrev pub left_at : Option Loop → ℕ → ℕ
left_at None index = 0
left_at (Some loop) index = left_in loop.range index

-- What has begun is in the range.
abbrev pub BegunInside : Range → Type 0
BegunInside range = (index : ℕ) → set.contains range.begun index ≡ true → within range.lo range.hi index ≡ 1

-- No two tasks wait at one loop, and of each only indices of its range have begun.
pub record LoopsStand (loops : Loops) : Type 0 where
  pub apart : (one other : TaskId) (first second : Loop) → loops one ≡ Some first → loops other ≡ Some second → first.number ≡ second.number → one ≡ other
  pub inside : (owner : TaskId) (loop : Loop) → loops owner ≡ Some loop → BegunInside loop.range
