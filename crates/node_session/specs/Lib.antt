pub mod Kinds
pub mod Views
pub mod Sent
pub mod Ends
pub mod Ending
pub mod Serving
pub mod Going
