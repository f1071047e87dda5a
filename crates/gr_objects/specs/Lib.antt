pub mod Kinds
pub mod Laws
-- For proofs and private functions.
pub mod ShapeWords
