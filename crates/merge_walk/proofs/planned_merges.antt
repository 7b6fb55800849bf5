pub mod Numbering
pub mod Made
pub mod Sides
pub mod Merged
pub mod Whole
pub mod Placing
