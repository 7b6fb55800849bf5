pub mod Longest
pub mod Pieces
pub mod Decimal
pub mod Fronts
pub mod Listed
pub mod Unique
