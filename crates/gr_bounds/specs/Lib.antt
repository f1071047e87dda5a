pub mod Shares
pub mod Outcomes
pub mod Laws
