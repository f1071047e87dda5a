pub mod Refusals
-- For proofs and private functions.
pub mod EarliestWords
pub mod MeaningView
pub mod ScopeView
pub mod WalkView
pub mod HeadsView
