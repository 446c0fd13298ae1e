mod Fits
mod ModelWords
mod SafeMoments
mod NothingMissed
mod CoveredOut
mod TrustedOut
