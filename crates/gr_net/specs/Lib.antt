pub mod Messages
pub mod Sums
pub mod Worlds
pub mod Flights
pub mod Views
pub mod Laws
