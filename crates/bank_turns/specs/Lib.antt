pub mod DraftFaults
pub mod Drafting
pub mod AckTexts
pub mod OutputTexts
pub mod BankSteps
pub mod KeptTexts
