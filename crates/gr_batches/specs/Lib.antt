pub mod Keys
pub mod Batches
pub mod BatchActs
pub mod Staying
pub mod Laws
