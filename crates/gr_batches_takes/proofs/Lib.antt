pub mod Names
pub mod Others
pub mod Ran
pub mod Words
pub mod Cells
pub mod Folds
pub mod Homes
pub mod Takes
