pub mod Calls
pub mod Cells
pub mod Chosen
pub mod Plain
pub mod Scopes
pub mod Tables
