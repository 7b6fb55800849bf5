mod Numbers
mod Places
pub mod Lives
