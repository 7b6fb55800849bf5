pub mod Looks
pub mod Built
