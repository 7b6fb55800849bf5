pub mod Bare
pub mod Tokens
pub mod Again
