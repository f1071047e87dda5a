pub mod Ranges
pub mod Contents
-- For proofs and private functions.
pub mod ThingView
pub mod MemoryView
