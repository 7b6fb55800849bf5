pub mod Refused
pub mod Counted
pub mod Framings
pub mod Planned
