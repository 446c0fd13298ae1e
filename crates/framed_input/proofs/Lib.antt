pub mod Fronts
pub mod Settling
pub mod TakingOn
pub mod Told
pub mod PieceTaken
pub mod InputFrames
mod InputRows
