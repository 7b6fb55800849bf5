pub mod Avoided
pub mod Collected
pub mod Found
pub mod Noted
