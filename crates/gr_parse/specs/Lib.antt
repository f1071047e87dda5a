pub mod Grammar
-- For proofs and private functions.
pub mod ParsingWords
pub mod ReportsWords
