pub mod HostRanges
pub mod NamedOutputs
pub mod AckVerdicts
pub mod CoveredAcks
pub mod ItemsGiven
pub mod CoveredOutputs
pub mod Rows
pub mod HostRows
pub mod Fronts
pub mod NextOutputs
pub mod Brought
pub mod Accorded
pub mod Growing
mod Examples
