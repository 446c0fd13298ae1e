pub mod Joining
pub mod Told
