pub mod Calls
pub mod Nothing
pub mod Tasks
