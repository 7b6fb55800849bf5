pub mod Cores
pub mod Counts
pub mod Orders
pub mod Programs
pub mod Prompts
