pub mod Words
pub mod Steps
pub mod TokenTests
pub mod Exprs
pub mod Complete
pub mod Calls
pub mod CallsComplete
pub mod Shorter
