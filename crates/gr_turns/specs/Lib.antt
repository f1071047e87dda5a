pub mod Lines
-- For proofs and private functions.
pub mod LineView
pub mod LineWords
