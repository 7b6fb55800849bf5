pub mod Ranges
pub mod Frames
pub mod Plans
pub mod Cells
pub mod GridFrames
