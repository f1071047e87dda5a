pub mod Running
pub mod Invariants
pub mod Laws
