pub mod Numbered
-- For proofs and private functions.
pub mod PlaceWords
pub mod IndexView
pub mod ProgramView
