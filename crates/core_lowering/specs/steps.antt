pub mod Behind
pub mod Building
pub mod Functions
pub mod Looks
pub mod Parts
