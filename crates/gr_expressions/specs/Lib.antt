pub mod Tok
pub mod Expressions
-- For proofs, private functions, and the functions that gr_parse calls.
pub mod TokWords
pub mod SoundWords
pub mod OperandsWords
pub mod GivesWords
