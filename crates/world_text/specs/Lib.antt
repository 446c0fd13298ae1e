pub mod Lines
pub mod Fields
pub mod Grammar
pub mod BankText
pub mod Report
pub mod Reading
