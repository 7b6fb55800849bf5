pub mod Definite
pub mod Lowering
pub mod Programs
pub mod Standing
pub mod Typed
pub mod steps
pub mod acceptance
