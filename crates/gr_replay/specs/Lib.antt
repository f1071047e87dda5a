pub mod Entries
pub mod Judged
pub mod Division
pub mod Laws
-- For proofs and private functions.
pub mod AdvanceWords
