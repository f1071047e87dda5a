pub mod Texts
pub mod Leasts
pub mod Trees
pub mod Statements
pub mod Nexts
pub mod Firsts
pub mod Bridge
pub mod Cases
