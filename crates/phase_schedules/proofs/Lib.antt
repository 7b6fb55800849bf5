pub mod Ahead
pub mod Cells
pub mod Tables
pub mod Places
pub mod Readings
pub mod Holds
pub mod Turning
pub mod Endings
pub mod Runs
pub mod Leaving
pub mod Calls
mod Examples
