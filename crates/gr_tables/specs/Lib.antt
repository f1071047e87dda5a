pub mod Stacks
pub mod Scopes
pub mod Turns
pub mod Dues
pub mod Changes
-- For proofs and private functions.
pub mod StackView
pub mod ScopeView
pub mod TaskView
