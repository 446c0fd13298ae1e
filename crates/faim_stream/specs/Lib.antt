pub mod Fed
pub mod Cuts
