pub mod Built
pub mod Forms
pub mod Planning
pub mod Progress
pub mod Served
pub mod Steps
pub mod Turns
pub mod Whole
