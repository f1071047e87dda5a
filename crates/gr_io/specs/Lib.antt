-- What sources and sinks of bytes mean: faults, amounts, and the devices over memory.
pub mod Faults
pub mod Amounts
pub mod Memory
