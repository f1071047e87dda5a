pub mod Stuck
pub mod Leading
pub mod Agreeing
