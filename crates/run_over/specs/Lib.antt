pub mod Soles
