pub mod Served
pub mod Acks
pub mod Leaves
pub mod Messages
pub mod Inner
