pub mod Valid
pub mod Work
pub mod Ends
