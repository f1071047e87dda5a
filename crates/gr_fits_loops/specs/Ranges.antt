-- What is known of the ranges of loops.
use Rattle.std.specs.Prelude.{◌≡◌, ℕ, ◌+◌, ◌&&◌, true, nat_le, nat_lt, length, slice_get, Some}
use Rattle.std.specs.FinSet as set
use Rattle.gr_lang.specs.States.{Range, Scope, State}
use Rattle.gr_machine.specs.Machines.{Machine, has_task}
use Rattle.gr_stands.specs.Worlds.{Given, machine_in}

-- Its task gets the index before the words, and has as many parameters; and what has begun is in the range.
pub record RangeFits (machine : Machine) (range : Range) : Type 0 where
  pub known : has_task machine range.target (length range.args + 1) ≡ true
  pub inside : (index : ℕ) → set.contains range.begun index ≡ true → (nat_le range.lo index && nat_lt index range.hi) ≡ true

-- Each loop of the state is such.
abbrev pub RangesFit : Given → State → Type 0
RangesFit given state = (number : ℕ) (scope : Scope) (range : Range) → slice_get state.scopes number ≡ Some scope → scope.range ≡ Some range → RangeFits (machine_in given) range
