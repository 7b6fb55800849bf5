pub mod Cells
pub mod Opened
pub mod Ranges
pub mod Ready
pub mod Walks
