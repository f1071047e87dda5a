pub mod Counts
pub mod Depths
pub mod Kept
pub mod Cores
pub mod Opening
