pub mod Once
pub mod Scopes
