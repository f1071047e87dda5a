pub mod Planned
pub mod Passed
