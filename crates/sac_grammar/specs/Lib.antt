pub mod Run
pub mod Tables
pub mod High
pub mod Limits
pub mod Parsing
pub mod Verdicts
