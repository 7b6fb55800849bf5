pub mod Marked
pub mod Rights
