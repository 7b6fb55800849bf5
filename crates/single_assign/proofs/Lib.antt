pub mod Groups
pub mod Loops
pub mod Whole
pub mod Cores
