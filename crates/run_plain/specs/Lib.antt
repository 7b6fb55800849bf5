pub mod Reads
pub mod Mirrors
