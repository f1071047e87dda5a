-- Which pieces of a cut are holes, and which live blocks the others are.
use Rattle.std.specs.Prelude.{◌≡◌, ◌≢◌, ℕ, ◌+◌, ◌-◌, ◌<◌, ◌≤◌, ◌==◌, ◌&&◌, if◌then◌else◌, nat_le, nat_lt, List, length, position, slice_index, Option, Some, None}
use Rattle.gr_lang.specs.Objects.{Heap}
use Rattle.gr_alloc.specs.CutView.{IsCut}

-- At the place where a hole starts stands its number of words, at the others 0. No two holes lie side by side.
pub record AreHoles (sizes holes : List ℕ) : Type 0 where
  pub cut : IsCut sizes
  pub reach : length sizes ≤ length holes
  pub pieces : (at : ℕ) → 0 < slice_index holes at → slice_index holes at ≡ slice_index sizes at
  pub apart : (at : ℕ) → 0 < slice_index holes at → slice_index holes (at + slice_index holes at) ≡ 0

-- The words of the live block that starts at a place, if one does: of a piece that is no hole.
abbrev pub live_at : List ℕ → List ℕ → ℕ → Option ℕ
live_at sizes holes at = if slice_index holes at == 0 then (if slice_index sizes at == 0 then None else Some (slice_index sizes at)) else None

-- A block, and no hole, starts at a place.
pub record IsBlock (sizes holes : List ℕ) (at : ℕ) : Type 0 where
  pub some : 0 < slice_index sizes at
  pub full : slice_index holes at ≡ 0

-- No hole starts where the piece at a place ends.
abbrev pub NoHoleBehind : List ℕ → List ℕ → ℕ → Type 0
NoHoleBehind sizes holes at = slice_index holes (at + slice_index sizes at) ≡ 0

-- No hole ends at a place.
abbrev pub NoHoleBefore : List ℕ → ℕ → Type 0
NoHoleBefore holes at = (k : ℕ) → 0 < slice_index holes k → k + slice_index holes k ≢ at

-- The live block at one place is another one now, or gone; all others stay.
pub record Changes (sizes holes sizes_now holes_now : List ℕ) (at : ℕ) (block : Option ℕ) : Type 0 where
  pub here : live_at sizes_now holes_now at ≡ block
  pub others : (k : ℕ) → k ≢ at → live_at sizes_now holes_now k ≡ live_at sizes holes k

-- The place of the first hole of at least n words; none for n = 0.
abbrev pub first_hole : List ℕ → ℕ → Option ℕ
first_hole holes n = if n == 0 then None else position (λ size. nat_le n size) holes

-- How far an address lies behind the heap's first one, where it is one of the heap's.
abbrev pub place_in : Heap → ℕ → Option ℕ
place_in heap at = if nat_le heap.from at && nat_lt at (heap.from + heap.count) then Some (at - heap.from) else None
