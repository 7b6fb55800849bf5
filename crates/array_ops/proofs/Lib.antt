pub mod Combining
pub mod Joining
pub mod Steps
pub mod TypeLists
