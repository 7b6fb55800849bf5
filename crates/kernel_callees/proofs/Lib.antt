pub mod CallMeans
mod Choices
mod Fitting
pub mod Reach
