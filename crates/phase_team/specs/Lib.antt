pub mod Segments
pub mod Endings
pub mod Schedules
