mod Arrays
mod Mains
