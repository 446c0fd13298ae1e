pub mod Fits
mod Timeless
mod InWords
mod CoveredSteps
mod SafeMoments
mod CoveredOut
mod KeptAccord
