pub mod Parts
pub mod Sends
pub mod Held
pub mod Groups
pub mod Goes
