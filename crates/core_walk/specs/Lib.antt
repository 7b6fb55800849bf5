pub mod Traced
pub mod Editing
