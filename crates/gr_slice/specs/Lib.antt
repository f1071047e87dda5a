pub mod Slices
-- For proofs and private functions.
pub mod TryWords
