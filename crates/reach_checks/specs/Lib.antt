pub mod Clear
pub mod Groups
pub mod Loops
