pub mod CallKernels
pub mod Calls
pub mod Levels
pub mod Loops
pub mod Plain
pub mod Scopes
