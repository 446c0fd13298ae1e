pub mod Accounts
pub mod Ranges
pub mod Soundness
pub mod Lists
pub mod Sums
pub mod Ledgers
pub mod Tables
