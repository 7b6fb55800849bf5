mod Overflows
pub mod WithinFacts
