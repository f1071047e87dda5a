pub mod Worlds
pub mod Memories
pub mod Calls
pub mod Places
pub mod Events
