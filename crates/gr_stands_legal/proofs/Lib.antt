pub mod Given
pub mod Legal
