pub mod Held
pub mod Groups
pub mod Runs
pub mod Granting
pub mod Fits
