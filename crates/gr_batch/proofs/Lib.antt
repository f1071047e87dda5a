pub mod Effects
pub mod Groups
pub mod Kept
