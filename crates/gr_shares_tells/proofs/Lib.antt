pub mod Units
pub mod Counted
pub mod Answered
