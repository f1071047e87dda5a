pub mod Merges
pub mod Gathers
pub mod Together
