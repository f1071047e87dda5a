pub mod Folding
pub mod Batches
pub mod Laws
pub mod Rows
-- For proofs and private functions.
pub mod GroupWords
