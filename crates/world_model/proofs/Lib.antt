pub mod Members
pub mod DraftsPosted
pub mod BankFrames
pub mod HostLands
pub mod BankLands
pub mod Reaching
pub mod Keeping
pub mod Growing
pub mod WholeRuns
pub mod Going
pub mod Promised
pub mod ActExamples
pub mod DayExamples
mod WayExamples
mod UnsafeExamples
pub mod HostMoments
pub mod RestartMoments
pub mod BankMoments
pub mod Ends
