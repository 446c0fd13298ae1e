pub mod Handled
pub mod Numbered
pub mod Reminded
