pub mod Append
pub mod Create
pub mod Damage
pub mod Journal
pub mod Limits
pub mod Reading
pub mod Resume
pub mod Visits
