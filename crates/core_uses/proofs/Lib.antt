pub mod Decided
pub mod Bound
pub mod Turns
