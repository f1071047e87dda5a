pub mod HeapRanges
-- For proofs and private functions.
pub mod LocalView
pub mod RangeWords
pub mod TableView
pub mod RunningView
pub mod TurnWords
