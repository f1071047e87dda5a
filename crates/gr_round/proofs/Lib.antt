pub mod Growing
pub mod Sums
pub mod Advancing
pub mod Stalling
