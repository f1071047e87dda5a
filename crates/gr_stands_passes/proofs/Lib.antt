pub mod Passes
pub mod Leaving
