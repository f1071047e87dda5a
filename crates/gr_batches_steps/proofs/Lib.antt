pub mod Stays
pub mod Choices
pub mod Tasks
pub mod Turns
pub mod Messages
pub mod Ends
pub mod Steps
