pub mod Choice
pub mod Vectored
