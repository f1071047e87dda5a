pub mod Worlds
pub mod Laws
-- For proofs and private functions.
pub mod MeetingWords
