mod Checks
pub mod Bodies
pub mod Calls
mod Edits
mod Step
pub mod Backward
