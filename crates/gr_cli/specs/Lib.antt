pub mod Arguments
pub mod Numbers
pub mod Options
pub mod Rows
pub mod Values
-- For proofs and private functions.
pub mod ClapWords
