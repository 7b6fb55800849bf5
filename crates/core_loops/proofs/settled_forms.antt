pub mod Formed
pub mod Cells
pub mod Constants
pub mod Kept
pub mod Typing
pub mod Cores
