pub mod Asked
pub mod Planted
pub mod Acked
