pub mod Instances
pub mod Learned
pub mod Sources
pub mod Table
