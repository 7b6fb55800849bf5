pub mod Backgrounds
pub mod Covered
pub mod Phases
pub mod Sources
