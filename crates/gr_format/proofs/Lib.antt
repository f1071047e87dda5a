pub mod Exact
pub mod Ranges
pub mod Once
pub mod Loop
pub mod Walks
