pub mod Slots
pub mod Leaves
pub mod Quiet
pub mod Units
