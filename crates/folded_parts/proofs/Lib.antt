pub mod Turns
pub mod Bodies
pub mod Gathering
