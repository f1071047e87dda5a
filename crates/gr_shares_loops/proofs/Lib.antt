pub mod Counting
pub mod Tasks
pub mod Others
pub mod Changed
