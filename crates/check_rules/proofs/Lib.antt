pub mod Clashing
pub mod Earliest
pub mod Instances
pub mod Lists
pub mod Places
pub mod Positions
pub mod Rows
