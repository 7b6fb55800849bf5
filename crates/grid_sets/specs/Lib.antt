pub mod Periods
pub mod Segments
