pub mod Axes
pub mod Extents
pub mod Sides
