pub mod Marks
pub mod Pieces
pub mod Steps
pub mod Rows
pub mod Keeping
