pub mod Agreeing
pub mod Counts
pub mod Reached
pub mod Removed
pub mod Rows
