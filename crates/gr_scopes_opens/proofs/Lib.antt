pub mod Ones
pub mod Common
pub mod Opened
pub mod Placed
pub mod Taken
pub mod Spawned
