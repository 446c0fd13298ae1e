pub mod Worlds
pub mod Effects
pub mod Ways
pub mod WorldSteps
pub mod Safety
pub mod Runs
pub mod Moments
pub mod Promises
