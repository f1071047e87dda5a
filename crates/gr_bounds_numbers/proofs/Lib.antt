pub mod Plain
pub mod Rows
pub mod Counting
pub mod Grows
pub mod Ones
