pub mod Opened
-- For proofs and private functions.
pub mod StateView
pub mod StealView
pub mod GiftWords
