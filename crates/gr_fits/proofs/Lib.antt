pub mod Named
pub mod Sites
pub mod Actions
pub mod Looks
pub mod Steps
pub mod Reached
