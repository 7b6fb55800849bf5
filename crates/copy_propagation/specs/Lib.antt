pub mod Notes
pub mod Forwarded
pub mod Table
