pub mod Steps
pub mod Renaming
pub mod Within
