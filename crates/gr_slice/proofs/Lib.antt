pub mod Staying
pub mod Stopping
pub mod Going
