mod Numbers
mod Expressions
mod Starts
pub mod Calls
pub mod Looks
pub mod Steps
pub mod Reached
