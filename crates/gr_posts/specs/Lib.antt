pub mod Posts
-- For proofs and private functions.
pub mod PostView
