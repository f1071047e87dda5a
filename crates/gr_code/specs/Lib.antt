pub mod Terms
pub mod Points
pub mod Instructions
pub mod Shapes
pub mod Rows
-- For proofs and private functions.
pub mod PointView
pub mod EmitWords
pub mod OpeningWords
pub mod CodeView
