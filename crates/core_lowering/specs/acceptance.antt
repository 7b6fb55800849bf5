pub mod Formed
pub mod Stands
