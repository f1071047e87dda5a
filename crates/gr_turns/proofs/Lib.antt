pub mod Sets
pub mod Puts
pub mod Begun
pub mod Numbered
pub mod Whole
pub mod Firsts
