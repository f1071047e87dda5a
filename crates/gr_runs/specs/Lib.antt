-- For proofs and private functions.
pub mod RunWords
