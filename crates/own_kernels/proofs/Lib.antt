mod Bools
pub mod Cells
pub mod Gives
pub mod Members
mod Parts
mod Scopes
