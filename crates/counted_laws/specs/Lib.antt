pub mod Simulation
pub mod Statements
pub mod placing
pub mod mark_places
pub mod mark_removal
