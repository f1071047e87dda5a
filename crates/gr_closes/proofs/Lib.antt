pub mod Combiners
