pub mod Trees
pub mod Sums
pub mod Depths
pub mod Scopes
pub mod ScopeActs
pub mod Laws
