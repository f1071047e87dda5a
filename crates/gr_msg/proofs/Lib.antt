pub mod Steps
pub mod Spelling
pub mod Taken
pub mod Packed
pub mod InRange
pub mod Told
