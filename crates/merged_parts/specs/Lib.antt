pub mod Splitting
pub mod Merging
