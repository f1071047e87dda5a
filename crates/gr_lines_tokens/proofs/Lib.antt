pub mod Firsts
pub mod Asked
pub mod Granted
pub mod Ended
pub mod Served
