pub mod Groups
pub mod Plans
pub mod Turns
pub mod Parts
pub mod Laws
pub mod Rows
-- For proofs and private functions.
pub mod TurnView
pub mod PlanWords
