pub mod Ranges
pub mod Stay
pub mod Chunks
pub mod Opened
