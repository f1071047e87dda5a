pub mod Common
pub mod Runs
pub mod Serves
