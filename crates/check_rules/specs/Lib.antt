pub mod Accepted
pub mod Codes
pub mod First
pub mod Groups
pub mod Places
pub mod Programs
pub mod Tables
pub mod Walk
