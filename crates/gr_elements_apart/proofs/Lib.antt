pub mod Apart
pub mod Runs
pub mod Messages
pub mod Turns
pub mod Closes
