pub mod Looks
pub mod Views
pub mod Functions
