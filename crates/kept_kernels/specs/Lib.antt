pub mod Bodies
pub mod Lasting
