pub mod Turns
mod Ends
pub mod Edits
