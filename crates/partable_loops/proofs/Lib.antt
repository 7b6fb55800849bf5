pub mod Numbers
pub mod Sameness
pub mod Boxes
pub mod Frames
pub mod Labelling
pub mod Framers
pub mod Operations
pub mod Verdict
