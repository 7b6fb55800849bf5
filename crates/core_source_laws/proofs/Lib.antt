pub mod Cores
pub mod Fitting
pub mod Lengths
pub mod Read
