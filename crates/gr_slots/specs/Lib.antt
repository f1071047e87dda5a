pub mod Held
-- For proofs and private functions.
pub mod SlotView
