pub mod Buffers
pub mod Aggregates
pub mod Laws
pub mod Rows
