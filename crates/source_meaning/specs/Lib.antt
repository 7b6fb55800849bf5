pub mod Meaning
pub mod Calls
pub mod Environments
pub mod Parameters
pub mod Rows
