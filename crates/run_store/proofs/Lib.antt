pub mod Changes
pub mod Holds
pub mod Opening
pub mod Parts
pub mod Placing
pub mod Targets
pub mod Updates
pub mod Wholes
pub mod Ends
mod Regions
