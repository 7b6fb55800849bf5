pub mod Inlining
pub mod Functions
pub mod Laws
