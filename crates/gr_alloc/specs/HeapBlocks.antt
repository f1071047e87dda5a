-- The heap with its live blocks: where they lie, and what making a block live does to them.
use Rattle.std.specs.Prelude.{◌≡◌, ℕ, ◌+◌, ◌<◌, ◌≤◌, Option, Some, None}
use Rattle.std.specs.Ordering.{nat_cmp}
use Rattle.std.specs.FinMap as map
use Rattle.gr_lang.specs.Objects.{Heap}

-- The heap, and the live blocks by their starts, each with its number of words.
pub record HeapBlocks : Type 0 where
  pub heap : Heap
  pub live : map.FinMap nat_cmp ℕ

-- A live block of so many words starts at this address.
abbrev pub IsLive : HeapBlocks → (start count : ℕ) → Type 0
IsLive blocks start count = map.get blocks.live start ≡ Some count

-- A live block has words, and all of them are the heap's.
abbrev pub LieInside : HeapBlocks → Type 0
LieInside blocks = (start count : ℕ) → IsLive blocks start count → (0 < count) × (blocks.heap.from ≤ start) × (start + count ≤ blocks.heap.from + blocks.heap.count)

-- A live block ends before the next one starts, so no two have a word in common.
abbrev pub LieApart : HeapBlocks → Type 0
LieApart blocks = (start count next more : ℕ) → IsLive blocks start count → IsLive blocks next more → start < next → start + count ≤ next

-- A block of n words at this start is live now, where there is such a start.
abbrev pub with_block : HeapBlocks → Option ℕ → ℕ → HeapBlocks
with_block blocks None n = blocks
with_block blocks (Some start) n = record blocks { live = map.insert blocks.live start n }
