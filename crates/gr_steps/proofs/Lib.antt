pub mod Hits
pub mod Ranges
pub mod Reaches
pub mod Known
pub mod Looks
