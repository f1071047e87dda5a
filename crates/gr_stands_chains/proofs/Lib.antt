pub mod Follows
pub mod Senders
pub mod Same
pub mod Actions
