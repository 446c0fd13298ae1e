pub mod AsNodes
pub mod NothingDone
pub mod PartsOfSteps
mod SentSteps
mod StepExamples
mod StoredSteps
