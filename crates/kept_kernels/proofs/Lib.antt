mod Carrying
mod Placed
