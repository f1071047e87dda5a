pub mod Texts
pub mod Showing
pub mod Ends
pub mod Gathered
pub mod Laws
