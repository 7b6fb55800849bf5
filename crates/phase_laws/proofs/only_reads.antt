pub mod Calls
pub mod OnlyReads
