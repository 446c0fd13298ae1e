pub mod BankKind
pub mod BankSessions
pub mod Promises
pub mod Trust
