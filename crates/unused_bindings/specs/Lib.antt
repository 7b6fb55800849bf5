pub mod Passed
pub mod Swept
