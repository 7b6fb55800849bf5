pub mod Laws
pub mod Levels
pub mod Ordered
pub mod Worked
pub mod mark_laws
pub mod reached_marks
pub mod over_phases
