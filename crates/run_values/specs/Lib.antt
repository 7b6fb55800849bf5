pub mod Numbers
pub mod Scopes
pub mod Shown
