pub mod Dealing
pub mod Layouts
pub mod WordCalls
pub mod Segments
pub mod Laws
pub mod Rows
