pub mod ByShape
pub mod Reaching
