pub mod Texts
pub mod Printing
pub mod Views
pub mod Failures
