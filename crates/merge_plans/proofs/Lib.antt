pub mod Opens
pub mod Frames
pub mod Parts
pub mod InnerLoops
pub mod Counting
pub mod Verdict
