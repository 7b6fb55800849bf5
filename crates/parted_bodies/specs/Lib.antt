pub mod Numbering
pub mod Making
