pub mod Alive
pub mod Calls
pub mod Homes
pub mod Over
pub mod Room
