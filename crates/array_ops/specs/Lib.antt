pub mod Answers
pub mod Operands
pub mod Regions
pub mod Tells
