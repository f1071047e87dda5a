pub mod Letters
pub mod Completed
pub mod Ended
pub mod Releases
pub mod Passed
pub mod Left
pub mod Arrived
