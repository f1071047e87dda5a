pub mod Leads
pub mod Units
pub mod Spawns
pub mod Tasks
