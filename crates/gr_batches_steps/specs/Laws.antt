-- The law of pieces of steps, for batches.
use Rattle.gr_stands.specs.Worlds.{Given}
use Rattle.gr_stands.specs.Stands.{IsSound}
use Rattle.gr_stands_made.specs.Keeping.{KeptByPieces}
use Rattle.gr_batches.specs.Batches.{BatchesStand}
use Rattle.gr_batches_takes.specs.Taking.{HeapIsApart}

-- Each piece keeps the part, of the batches that have gone off then; at the start of an event, in its course and after it.
abbrev pub PiecesKeepBatches : Type 0
PiecesKeepBatches =
    (given : Given) → IsSound given → HeapIsApart given
    → KeptByPieces given (λ sent world state. BatchesStand given sent world state) (λ me sent world state. BatchesStand given sent world state)
    (λ sent world state. BatchesStand given sent world state)
