pub mod Lines
pub mod Waiting
pub mod Leaving
pub mod Laws
