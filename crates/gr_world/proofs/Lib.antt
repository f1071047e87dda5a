pub mod Mails
pub mod Stays
pub mod Pairs
pub mod Apart
pub mod Opens
pub mod Matches
pub mod Runs
