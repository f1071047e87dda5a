pub mod States
pub mod Rows
-- For proofs and private functions.
pub mod TurnWords
