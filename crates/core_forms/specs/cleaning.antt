pub mod Bodies
pub mod Checks
pub mod Copies
pub mod Unused
pub mod Laws
