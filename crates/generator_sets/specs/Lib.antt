pub mod Counts
pub mod Pieces
pub mod Statements
pub mod Unions
