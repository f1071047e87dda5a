pub mod TaskIds
pub mod Nexts
pub mod Opens
pub mod StepRows
pub mod Operations
pub mod Reducers
