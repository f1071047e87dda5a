pub mod Rounds
pub mod Outcomes
-- For proofs and private functions.
pub mod RoundWords
