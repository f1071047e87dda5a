pub mod Names
pub mod Spelling
pub mod Grammar
pub mod Naming
-- For proofs and private functions.
pub mod FieldWords
pub mod LineWords
pub mod WritingWords
