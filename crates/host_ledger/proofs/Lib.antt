pub mod EndpointLists
pub mod Distinct
pub mod Additions
pub mod Balances
pub mod Rows
pub mod Openings
pub mod Found
