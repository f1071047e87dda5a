pub mod Vectors
pub mod Runs
pub mod Messages
pub mod Ready
pub mod Finds
pub mod Released
