pub mod Alike
pub mod Holds
pub mod Statements
