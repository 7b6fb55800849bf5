pub mod Command
pub mod Meaning
