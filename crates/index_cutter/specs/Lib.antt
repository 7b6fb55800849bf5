pub mod Chunks
pub mod Cuts
