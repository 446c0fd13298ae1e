pub mod NumberedTurns
pub mod Appended
pub mod BreakBytes
pub mod GivenItems
pub mod ItemPayloads
