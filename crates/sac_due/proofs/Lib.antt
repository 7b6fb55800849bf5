pub mod Stuck
pub mod First
pub mod Once
