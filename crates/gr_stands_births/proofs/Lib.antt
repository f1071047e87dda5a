pub mod Turns
pub mod Opened
pub mod Started
pub mod Planted
