pub mod Environments
pub mod Worked
