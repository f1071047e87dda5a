pub mod Runs
pub mod Mails
pub mod Cores
-- For proofs and private functions.
pub mod CoreView
pub mod EntryWords
