pub mod Contract
pub mod Heights
pub mod Parts
pub mod Levels
