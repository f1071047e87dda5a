pub mod Ticks
pub mod Machine
