pub mod Lists
pub mod Channels
pub mod Moves
