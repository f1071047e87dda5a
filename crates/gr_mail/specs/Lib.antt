pub mod Ends
pub mod Rings
pub mod Answers
pub mod Boxes
pub mod Laws
pub mod Rows
pub mod EndsView
pub mod BoxesView
