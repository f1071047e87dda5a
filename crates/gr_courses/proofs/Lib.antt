pub mod Doing
pub mod Folds
pub mod Courses
pub mod Steps
