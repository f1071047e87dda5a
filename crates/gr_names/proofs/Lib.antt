pub mod Positions
pub mod Places
pub mod Walks
