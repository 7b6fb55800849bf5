mod Deciding
mod Notes
mod Turns
