-- Functions of numbers: one with another value at one number, and a list as the function of its places.
use Rattle.std.specs.Prelude.{ℕ, ◌==◌, if◌then◌else◌, List, slice_index_or}

-- The function with this value at this number.
unfoldable pub put : {X : Type 0} → (ℕ → X) → ℕ → X → ℕ → X
put f number value other = if other == number then value else f other

-- What stands at each place of a list, and a default at all other numbers.
unfoldable pub at_place : {X : Type 0} → X → List X → ℕ → X
at_place default items place = slice_index_or items place default
