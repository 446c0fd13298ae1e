pub mod Layouts
pub mod Spelling
pub mod Reading
pub mod Steps
pub mod Parts
pub mod Partial
pub mod Cutting
