pub mod Laid
pub mod Opening
