pub mod Opened
pub mod Readies
pub mod Waiters
