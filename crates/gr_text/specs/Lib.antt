pub mod Spelling
pub mod Places
pub mod Text
-- For proofs and private functions.
pub mod FrontWords
