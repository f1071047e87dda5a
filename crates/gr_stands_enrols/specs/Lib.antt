pub mod Enrolling
pub mod Laws
