pub mod Inner
pub mod Going
pub mod Crossings
pub mod Carrying
pub mod Keeping
pub mod Beginning
pub mod Known
pub mod Handing
