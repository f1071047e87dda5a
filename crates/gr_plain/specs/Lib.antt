pub mod Held
pub mod Laws
pub mod PrintRows
-- For proofs and private functions.
pub mod SizeWords
pub mod DueWords
pub mod CountWords
pub mod HeldWords
pub mod PlainStateView
pub mod PlainView
