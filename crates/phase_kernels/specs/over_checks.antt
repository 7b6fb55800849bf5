pub mod Holders
pub mod Over
