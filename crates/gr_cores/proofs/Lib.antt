pub mod Worlds
