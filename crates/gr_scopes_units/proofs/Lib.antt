pub mod Moved
pub mod Split
pub mod Begun
