pub mod Imads
pub mod Members
pub mod Appended
pub mod Counted
pub mod Waiting
pub mod Found
pub mod Holding
pub mod InOrder
pub mod InARow
pub mod AnsweredOnce
pub mod Numbers
mod Examples
