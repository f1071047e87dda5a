pub mod Standing
pub mod Rising
pub mod Tells
