pub mod Spelling
pub mod Text
pub mod Cut
pub mod Codes
