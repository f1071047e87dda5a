-- The live blocks lie in the heap, and apart from each other: they are pieces of its cut.
use Rattle.std.proofs.Common.{◌≡◌, ℕ, ◌+◌, List, slice_index, subst, arith, ⊎_elim}
use Rattle.std.proofs.lemmas.Bool.{cases_lt}
use Rattle.gr_alloc.specs.HeapBlocks.{HeapBlocks, LieApart, LieInside}
use Rattle.gr_alloc.specs.CutView.{IsCut}
use Rattle.gr_alloc.specs.BlockView.{IsBlocks, blocks_of}
use Rattle.gr_alloc.specs.declared.blocks.Blocks.TheInside.{Inside}
use Rattle.gr_alloc.proofs.LiveMap.{heap_of}
use Rattle.gr_alloc.proofs.Starts.{live_piece}

pieces_inside : (start : ℕ) (sizes holes : List ℕ) → IsCut sizes → LieInside (heap_of start sizes holes)
pieces_inside start sizes holes cut = λ at count is.
    let piece = live_piece start sizes holes at count is in
    (piece.4, omega (arith, piece.1), omega (arith, piece.1, piece.3, piece.4, cut.within piece.0))

pieces_apart : (start : ℕ) (sizes holes : List ℕ) → IsCut sizes → LieApart (heap_of start sizes holes)
pieces_apart start sizes holes cut = λ at count next more is also before.
    let piece = live_piece start sizes holes at count is in
    let behind = live_piece start sizes holes next more also in
    ⊎_elim
    (λ over. absurd (omega (arith, piece.1, behind.1, behind.3, behind.4, cut.alone piece.0 behind.0 (omega (arith, piece.1, behind.1)) over)))
    (λ off. omega (arith, piece.1, piece.3, behind.1))
    (cases_lt behind.0 (piece.0 + slice_index sizes piece.0))

pub blocks_inside : (b : Inside) (value : HeapBlocks) → blocks_of b ≡ value → IsBlocks b → LieInside value
blocks_inside b value e is = subst LieInside e (pieces_inside b.start b.cuts b.holes is.holes.cut)

pub blocks_apart : (b : Inside) (value : HeapBlocks) → blocks_of b ≡ value → IsBlocks b → LieApart value
blocks_apart b value e is = subst LieApart e (pieces_apart b.start b.cuts b.holes is.holes.cut)
