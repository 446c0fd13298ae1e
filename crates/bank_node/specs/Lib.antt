pub mod BankRules
pub mod BankReadOnce
pub mod Stepping
pub mod Preparing
