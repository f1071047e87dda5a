pub mod Loops
pub mod Shares
pub mod ShareActs
pub mod Laws
