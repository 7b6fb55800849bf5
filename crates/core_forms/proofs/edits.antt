pub mod Wider
pub mod Mapping
