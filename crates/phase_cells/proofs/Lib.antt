mod Samples
mod Works
