pub mod Tasks
pub mod Batches
