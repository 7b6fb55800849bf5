pub mod Counts
mod Running
pub mod Names
pub mod Scopes
mod Bases
mod Left
pub mod Stepped
pub mod Whole
