pub mod Off
pub mod Tasks
pub mod Waits
pub mod Messages
