pub mod Blocks
pub mod CodeTrees
pub mod Collected
pub mod Forks
pub mod Listings
pub mod Placed
pub mod Positions
pub mod Whole
