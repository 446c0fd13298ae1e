pub mod Index
pub mod Limits
pub mod Tables
