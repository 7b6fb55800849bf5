mod Checks
mod Cleaned
mod Walked
