pub mod Outside
pub mod Short
pub mod Slots
