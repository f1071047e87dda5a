pub mod Stays
pub mod Slots
pub mod Made
pub mod Messages
pub mod Several
