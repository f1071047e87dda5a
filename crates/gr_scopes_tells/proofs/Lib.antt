pub mod Passes
pub mod Leaves
pub mod Enrols
pub mod Nothing
pub mod Tasks
