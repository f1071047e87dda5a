pub mod Sent
mod Limits
mod Bodies
mod Ends
pub mod Agreeing
