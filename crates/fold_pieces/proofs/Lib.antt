pub mod Backward
mod Bounds
mod Evenness
mod Insides
mod Keepings
mod Searching
mod Splitting
mod Verdict
