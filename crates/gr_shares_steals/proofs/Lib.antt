pub mod Common
pub mod Questions
pub mod Gifts
