pub mod Dense
pub mod numbered
