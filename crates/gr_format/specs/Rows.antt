-- Worked rows of formats.
use Rattle.std.specs.Prelude.{◌≡◌, ℕ, List, [], ◌∷◌, Ok, Err}
use Rattle.gr_format.specs.Formats.{Format, ◌>>=◌, ranged, times, opened, number}

-- 513 is two bytes, the higher first.
abbrev pub HighestFirst : Type 0
HighestFirst = number (2 ∷ 1 ∷ []) ≡ 513

-- A count from 1 to 2 in one byte, and so many pairs of bytes that are at least it.
abbrev pub counted : Format (List ℕ)
counted = do
  count ← ranged 1 1 2
  times count (ranged 2 count 1000)

abbrev pub TwoAreRead : Type 0
TwoAreRead = opened counted (2 ∷ 0 ∷ 2 ∷ 1 ∷ 0 ∷ []) ≡ Ok (2 ∷ 256 ∷ [])

-- The first fault: no count, a count that is too great, a number that is too small, one that is cut off, and a byte too many.
abbrev pub FaultsAreFound : Type 0
FaultsAreFound = (opened counted [] ≡ Err 0) × (opened counted (3 ∷ 0 ∷ []) ≡ Err 0) × (opened counted (2 ∷ 0 ∷ 1 ∷ []) ≡ Err 1)
    × (opened counted (2 ∷ 0 ∷ 2 ∷ 0 ∷ []) ≡ Err 3) × (opened counted (1 ∷ 0 ∷ 1 ∷ 9 ∷ []) ≡ Err 3)
