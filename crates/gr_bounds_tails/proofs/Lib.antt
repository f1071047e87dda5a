pub mod Quiet
pub mod Lines
pub mod Tails
pub mod Grants
