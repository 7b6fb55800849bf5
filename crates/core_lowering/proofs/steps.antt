pub mod Accumulated
pub mod Arms
pub mod Steps
pub mod Whole
