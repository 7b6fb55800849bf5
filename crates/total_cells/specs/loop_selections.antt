pub mod Selecting
pub mod Statements
pub mod Told
