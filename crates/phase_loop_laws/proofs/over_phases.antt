pub mod Cells
pub mod Reading
pub mod Whole
pub mod Writing
