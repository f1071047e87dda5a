pub mod Ends
pub mod Runs
-- For proofs and private functions.
pub mod EndingWords
