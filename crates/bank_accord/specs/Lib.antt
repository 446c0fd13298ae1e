pub mod Accord
