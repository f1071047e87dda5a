pub mod Running
pub mod Invariants
