pub mod Specialised
pub mod Laws
