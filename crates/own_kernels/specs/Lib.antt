pub mod Kernels
pub mod Statements
pub mod Steps
