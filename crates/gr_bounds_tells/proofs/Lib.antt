pub mod Guards
pub mod Runs
