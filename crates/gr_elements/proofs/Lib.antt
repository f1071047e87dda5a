pub mod Weights
pub mod Orders
pub mod Kept
pub mod Opening
