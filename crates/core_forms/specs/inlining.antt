pub mod Inlined
pub mod Laws
pub mod Step
