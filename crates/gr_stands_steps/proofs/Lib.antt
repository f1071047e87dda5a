pub mod Waiters
pub mod Marks
pub mod Runs
pub mod Serves
pub mod Steps
