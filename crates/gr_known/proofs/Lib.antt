pub mod Bodies
pub mod Actions
pub mod Looks
pub mod Steps
