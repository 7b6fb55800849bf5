pub mod Crews
pub mod Reports
pub mod Endings
pub mod Rosters
