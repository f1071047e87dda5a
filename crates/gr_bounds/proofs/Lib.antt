pub mod Events
pub mod Steps
pub mod Shares
pub mod Opening
pub mod Measures
