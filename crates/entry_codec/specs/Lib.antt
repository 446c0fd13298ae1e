pub mod BankRanges
pub mod BankReading
pub mod BankSizes
pub mod BankSpelling
pub mod Config
pub mod Reading
pub mod Spelling
pub mod Sizes
