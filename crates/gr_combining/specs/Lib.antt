pub mod Combining
-- For proofs and private functions.
pub mod CombiningView
