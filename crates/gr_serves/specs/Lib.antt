pub mod Heaps
-- For proofs and private functions.
pub mod MessageWords
pub mod ScopeWords
