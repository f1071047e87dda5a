pub mod Names
pub mod Items
pub mod Faults
pub mod Targets
