pub mod Zeros
pub mod Tasks
pub mod Last
