-- The live blocks of the heap as the definitions see them, and what always holds of them.
use Rattle.std.specs.Prelude.{ℕ, zero, suc, ◌+◌, ◌<◌, ◌^◌, List, length, Option, Some, None}
use Rattle.std.specs.Ordering.{nat_cmp}
use Rattle.std.specs.FinMap as map
use Rattle.gr_alloc.specs.HeapBlocks.{HeapBlocks}
use Rattle.gr_alloc.specs.HoleView.{AreHoles, live_at}
use Rattle.gr_alloc.specs.declared.blocks.Blocks.TheInside.{Inside}

-- The live blocks with one more, where there is one.
abbrev pub with_live : map.FinMap nat_cmp ℕ → ℕ → Option ℕ → map.FinMap nat_cmp ℕ
with_live live start None = live
with_live live start (Some words) = map.insert live start words

-- The live blocks that start at the first n places of the heap, by their addresses.
unfoldable pub live_below : ℕ → List ℕ → List ℕ → ℕ → map.FinMap nat_cmp ℕ
live_below start sizes holes zero = map.empty
live_below start sizes holes (suc n) = with_live (live_below start sizes holes n) (start + n) (live_at sizes holes n)

-- The heap with its live blocks.
abbrev pub blocks_of : Inside → HeapBlocks
blocks_of b = record { heap = record { from = b.start; count = length b.cuts }; live = live_below b.start b.cuts b.holes (length b.cuts) }

-- The heap's addresses are words of 64 bits, and its free words lie in holes.
pub record IsBlocks (b : Inside) : Type 0 where
  pub fits : b.start + length b.cuts < 2 ^ 64
  pub holes : AreHoles b.cuts b.holes
