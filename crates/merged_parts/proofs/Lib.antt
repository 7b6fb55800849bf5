pub mod Numbered
pub mod Copied
pub mod Taken
pub mod Assembled
