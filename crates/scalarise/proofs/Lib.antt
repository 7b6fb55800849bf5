mod Walks
mod Turns
mod Rounds
mod Axes
