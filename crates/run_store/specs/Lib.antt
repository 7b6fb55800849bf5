pub mod Lents
pub mod Stands
pub mod Targets
pub mod Selects
pub mod Updates
