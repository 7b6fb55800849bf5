mod Copied
mod Parts
mod Fits
mod Walks
mod Left
mod Rounds
mod Turns
