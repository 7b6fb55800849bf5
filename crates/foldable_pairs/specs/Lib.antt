pub mod Building
pub mod Pairs
pub mod Parts
pub mod Selected
pub mod Statements
