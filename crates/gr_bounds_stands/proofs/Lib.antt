pub mod Standing
pub mod Loops
pub mod Telling
