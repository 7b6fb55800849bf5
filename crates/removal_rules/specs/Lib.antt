pub mod Total
pub mod Uses
