pub mod Reached
pub mod Removal
pub mod Statements
