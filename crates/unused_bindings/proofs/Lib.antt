mod Backward
mod Loops
mod Rights
mod Turns
