pub mod Counts
pub mod Changes
pub mod Words
pub mod Quiet
pub mod Begins
pub mod Ends
pub mod Served
pub mod Events
