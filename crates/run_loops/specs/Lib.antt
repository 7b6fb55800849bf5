pub mod Jobs
pub mod Loops
pub mod Running
