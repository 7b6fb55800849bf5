pub mod Sequences
pub mod Steps
pub mod Merges
pub mod Verdicts
pub mod Runs
pub mod Stored
