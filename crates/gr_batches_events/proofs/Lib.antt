pub mod Frame
pub mod Joins
pub mod Turned
pub mod Moved
pub mod Comes
