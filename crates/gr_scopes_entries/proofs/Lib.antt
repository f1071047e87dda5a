pub mod Trees
pub mod Served
