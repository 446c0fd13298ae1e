pub mod Outbox
pub mod Sending
pub mod Storing
