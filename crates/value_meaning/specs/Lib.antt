pub mod Evaluation
pub mod WithSource
