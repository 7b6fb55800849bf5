pub mod Placed
pub mod Bindings
pub mod Measures
