pub mod Rows
pub mod Printing
pub mod Trees
