pub mod Acting
pub mod Rests
pub mod Stays
pub mod Laws
