pub mod Settling
pub mod Cleaned
