mod Agreeing
mod Bound
pub mod Laws
mod Places
mod Same
