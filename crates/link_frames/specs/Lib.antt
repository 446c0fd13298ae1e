pub mod Kinds
pub mod Frames
pub mod Splits
pub mod Held
pub mod Lending
pub mod Filling
