mod Bare
mod GenCells
mod Lent
pub mod Named
mod PartCells
mod Rows
mod SourceCells
