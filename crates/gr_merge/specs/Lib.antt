pub mod Machines
pub mod LocalRuns
pub mod GlobalRuns
pub mod Merges
pub mod Laws
pub mod Rows
-- For proofs and private functions.
pub mod MergeWords
