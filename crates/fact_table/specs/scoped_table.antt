pub mod Notes
pub mod Slots
