pub mod Placing
pub mod Statements
