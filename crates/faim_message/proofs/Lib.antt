pub mod Numbers
pub mod Sound
pub mod Flow
pub mod Goes
pub mod Arrive
pub mod Judge
pub mod Decodings
pub mod Reasons
pub mod Each
mod Examples
mod EditExamples
pub mod Duplication
pub mod Finds
pub mod Numbered
pub mod ImadText
pub mod Lengths
pub mod MarkBytes
pub mod BodyTexts
pub mod Submissions
pub mod HeadRanges
pub mod Left
pub mod RemainingLemmas
pub mod PartialLemmas
pub mod CutLemmas
