pub mod Nested
pub mod Needs
pub mod Promised
