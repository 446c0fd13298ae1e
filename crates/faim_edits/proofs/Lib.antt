pub mod Rows
pub mod Fillings
pub mod Failing
pub mod Widths
pub mod Witnesses
pub mod Failed
pub mod Listing
