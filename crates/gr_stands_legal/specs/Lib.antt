pub mod Slots
pub mod Holding
pub mod Laws
