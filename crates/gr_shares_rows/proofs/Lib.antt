pub mod Common
pub mod Acts
pub mod Serves
pub mod Closes
pub mod Entries
