pub mod AtPlaces
pub mod CycleFrames
pub mod GivenAgain
pub mod Handled
pub mod Newest
pub mod NextEntries
pub mod StepSides
