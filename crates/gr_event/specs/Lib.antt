pub mod Scopes
pub mod Counts
pub mod Masters
pub mod Laws
