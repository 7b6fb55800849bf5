pub mod Along
mod GridSteps
mod Covering
mod OffsetSteps
