pub mod Inclusion
pub mod Joins
pub mod Lists
pub mod Orders
