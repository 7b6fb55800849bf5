pub mod Texts
pub mod Operators
pub mod Canonical
