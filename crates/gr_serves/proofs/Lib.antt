pub mod Serving
pub mod Units
