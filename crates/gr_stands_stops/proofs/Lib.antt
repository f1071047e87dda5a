pub mod Marks
pub mod Runs
pub mod Serves
pub mod Steps
pub mod Histories
pub mod Telling
