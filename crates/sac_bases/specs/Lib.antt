pub mod Lookup
pub mod Generators
pub mod Tables
