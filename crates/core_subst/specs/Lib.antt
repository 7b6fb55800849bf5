pub mod Names
pub mod Substitution
pub mod copy
