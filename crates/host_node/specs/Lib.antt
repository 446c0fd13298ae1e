pub mod Following
pub mod HostList
pub mod HostReadOnce
pub mod Node
pub mod Preparing
pub mod Resending
pub mod Stepping
