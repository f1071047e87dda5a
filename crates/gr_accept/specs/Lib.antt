pub mod Operations
pub mod Declarations
pub mod Sites
pub mod Walks
pub mod Conditions
pub mod Accepted
pub mod AcceptedRows
-- For proofs and private functions.
pub mod RowWords
