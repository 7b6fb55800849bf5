pub mod Folding
pub mod Making
