-- The cut of the heap into pieces, one behind the other. At the place where a piece starts stands its number of words, at the other places 0.
use Rattle.std.specs.Prelude.{◌≡◌, ℕ, ◌+◌, ◌-◌, ◌<◌, ◌≤◌, List, length, slice_index, slice_set}
use Rattle.gr_alloc.specs.declared.cuts.Cuts.TheInside.{Inside}
use Rattle.gr_syntax.specs.declared.limits.TheConstants.{MAX_WORDS}

-- The pieces cover all places, at most 2^24 of them, and no two overlap.
pub record IsCut (sizes : List ℕ) : Type 0 where
  pub few : length sizes ≤ MAX_WORDS
  pub begins : 0 < length sizes → 0 < slice_index sizes 0
  pub within : (at : ℕ) → 0 < slice_index sizes at → at + slice_index sizes at ≤ length sizes
  pub alone : (at k : ℕ) → at < k → k < at + slice_index sizes at → slice_index sizes k ≡ 0
  pub goes_on : (at : ℕ) → 0 < slice_index sizes at → at + slice_index sizes at < length sizes → 0 < slice_index sizes (at + slice_index sizes at)

-- Where a piece ends stands its number of words too, and elsewhere 0.
pub record AreEnds (sizes ends : List ℕ) : Type 0 where
  pub whole : length ends ≡ length sizes + 1
  pub ended : (at : ℕ) → 0 < slice_index sizes at → slice_index ends (at + slice_index sizes at) ≡ slice_index sizes at
  pub begun : (at size : ℕ) → 0 < size → slice_index ends (at + size) ≡ size → slice_index sizes at ≡ size
  pub after : (end : ℕ) → slice_index ends end ≤ end

-- The piece at a place in two, the first of so many words.
abbrev pub split_at : List ℕ → ℕ → ℕ → List ℕ
split_at sizes at first = slice_set (slice_set sizes at first) (at + first) (slice_index sizes at - first)

-- The piece at a place and the one behind it in one.
abbrev pub joined_at : List ℕ → ℕ → List ℕ
joined_at sizes at = let middle = at + slice_index sizes at in slice_set (slice_set sizes at (slice_index sizes at + slice_index sizes middle)) middle 0

-- The pieces by their starts and by their ends.
pub record IsCuts (c : Inside) : Type 0 where
  pub cut : IsCut c.sizes.items
  pub ends : AreEnds c.sizes.items c.ends.items
