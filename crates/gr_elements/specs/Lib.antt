pub mod Weights
pub mod Elements
pub mod ElementActs
pub mod Laws
