pub mod Words
pub mod Strips
pub mod Sending
pub mod Sides
pub mod Whole
