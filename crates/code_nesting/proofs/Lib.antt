pub mod Closed
pub mod Needed
pub mod Nested
