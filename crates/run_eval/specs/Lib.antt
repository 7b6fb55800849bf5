pub mod Outcomes
pub mod Updates
