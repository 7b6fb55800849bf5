pub mod Buffers
pub mod Literals
pub mod Operands
pub mod Rest
pub mod Rights
pub mod Shorts
pub mod Words
mod Mirrors
