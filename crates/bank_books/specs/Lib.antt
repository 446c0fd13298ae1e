pub mod Openings
pub mod Drafts
pub mod Inbox
pub mod Numbering
pub mod Lawful
pub mod State
pub mod Kept
