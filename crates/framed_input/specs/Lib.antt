pub mod Limits
pub mod Intake
pub mod Feeding
pub mod Standing
pub mod Taking
pub mod Counting
pub mod FramesIn
pub mod Reading
