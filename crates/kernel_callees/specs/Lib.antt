pub mod Calls
pub mod Choosing
pub mod Instances
