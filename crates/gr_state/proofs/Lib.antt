pub mod There
pub mod Asked
pub mod Holding
pub mod Giving
pub mod Beginning
