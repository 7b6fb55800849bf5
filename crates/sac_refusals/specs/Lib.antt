pub mod Stops
pub mod Words
