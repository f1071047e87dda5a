pub mod Ends
pub mod Mails
pub mod Grids
pub mod Making
