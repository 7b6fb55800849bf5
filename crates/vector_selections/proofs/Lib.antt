mod Turns
mod Unchanged
mod Walked
