pub mod Commands
pub mod Texts
pub mod Due
pub mod Readings
pub mod Promises
-- For proofs and private functions.
pub mod Counts
pub mod AnswerView
