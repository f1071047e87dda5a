pub mod Stores
-- For proofs and private functions.
pub mod StoreView
