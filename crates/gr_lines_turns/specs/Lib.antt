pub mod Tokens
pub mod TokenActs
pub mod Laws
