pub mod Agreeing
pub mod Laws
-- For proofs and private functions.
pub mod HistoryWords
pub mod EndWords
