pub mod Shards
pub mod Listed
pub mod Openings
