mod Agreeing
mod Called
mod Emptied
mod Numbers
pub mod Outside
mod Places
