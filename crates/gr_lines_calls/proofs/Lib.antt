pub mod Counts
pub mod Changes
pub mod Joins
pub mod Goes
pub mod Ends
pub mod Serves
