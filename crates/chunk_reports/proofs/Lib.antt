pub mod Sorting
pub mod Ascending
pub mod Totals
