pub mod Bound
pub mod Statements
pub mod Tests
