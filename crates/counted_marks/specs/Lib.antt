pub mod Bases
pub mod Known
pub mod Marks
pub mod Marking
pub mod Statements
