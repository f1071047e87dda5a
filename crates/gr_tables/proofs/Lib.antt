pub mod Absent
pub mod Begins
