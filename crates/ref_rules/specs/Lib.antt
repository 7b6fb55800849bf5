pub mod Appending
pub mod Counts
pub mod listed_uses
