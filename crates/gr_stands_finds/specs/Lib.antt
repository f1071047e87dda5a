pub mod Vectors
pub mod Finding
pub mod Releasing
pub mod Laws
