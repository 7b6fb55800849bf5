pub mod Closed
pub mod Emptied
