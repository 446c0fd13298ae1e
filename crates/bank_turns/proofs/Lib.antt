pub mod Givens
pub mod Following
pub mod FaultLemmas
pub mod Sends
pub mod Looked
pub mod DraftTexts
pub mod GivenTexts
pub mod ToldRanges
pub mod KeptSteps
pub mod Counts
mod DraftExamples
mod AnswerExamples
mod KeptExamples
