pub mod Kept
pub mod Told
pub mod Work
pub mod Lists
pub mod Opening
pub mod Parts
