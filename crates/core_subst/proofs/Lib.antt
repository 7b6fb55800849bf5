pub mod Above
pub mod Hiding
pub mod Law
pub mod Numbers
pub mod Occurrences
pub mod Steps
