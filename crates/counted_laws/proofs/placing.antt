pub mod Cores
pub mod Counted
pub mod Derived
pub mod Lists
pub mod Orders
pub mod Prompts
pub mod Sizes
pub mod Splits
