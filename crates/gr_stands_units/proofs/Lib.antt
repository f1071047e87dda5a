pub mod Begins
pub mod Units
