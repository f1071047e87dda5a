pub mod Entries
pub mod Telling
pub mod Laws
