pub mod HeapBlocks
-- For proofs and private functions.
pub mod BlockView
pub mod PeakView
pub mod CutView
pub mod HoleView
