pub mod Machine
pub mod Facts
pub mod Combining
pub mod Laws
pub mod Rows
pub mod Reading
