pub mod Stages
pub mod Parts
pub mod Keeping
pub mod Laws
