mod RunRows
mod EventRows
mod RequestRows
mod ProgramRows
pub mod ActionFacts
pub mod ServeFacts
mod Runs
pub mod Clocks
mod Merging
pub mod Nets
