pub mod Bounds
pub mod Instances
