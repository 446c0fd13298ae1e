pub mod HostKind
pub mod Promises
