pub mod Formats
pub mod Readers
pub mod Writing
pub mod Laws
pub mod Rows
