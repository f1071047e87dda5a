pub mod Lines
pub mod Turns
pub mod Steps
pub mod Ends
