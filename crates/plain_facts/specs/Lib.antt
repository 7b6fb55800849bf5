pub mod Rights
pub mod Called
pub mod Literals
pub mod known_rights
