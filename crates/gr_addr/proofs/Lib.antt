pub mod Dealt
pub mod Words
