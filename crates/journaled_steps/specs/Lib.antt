pub mod Faults
pub mod Node
pub mod Steps
