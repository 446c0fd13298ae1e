pub mod Counted
pub mod Endings
pub mod FedLemmas
mod InitAnswers
pub mod Pieces
mod ReadTexts
pub mod Served
mod SessionStatuses
pub mod Tried
pub mod WholeScripts
