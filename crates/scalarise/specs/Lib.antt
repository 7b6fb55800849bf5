pub mod Scalarised
pub mod Axes
