pub mod Changes
pub mod Quiet
pub mod Laws
