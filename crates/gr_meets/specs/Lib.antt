pub mod Parsers
pub mod Lists
pub mod Faults
pub mod Example
-- For proofs and private functions.
pub mod LanguageWords
pub mod ListsWords
