pub mod Closes
pub mod Replies
