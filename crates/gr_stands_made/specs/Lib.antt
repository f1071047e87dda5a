pub mod Pieces
pub mod Rows
pub mod Keeping
pub mod Laws
