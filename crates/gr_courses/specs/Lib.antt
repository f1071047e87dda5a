pub mod Seen
pub mod Folds
pub mod Courses
pub mod Laws
