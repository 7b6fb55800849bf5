pub mod Moments
pub mod Interleavings
pub mod Readings
pub mod Calls
pub mod Along
pub mod Leaving
pub mod Laws
