pub mod Spreads
pub mod Flights
pub mod Acts
pub mod Views
