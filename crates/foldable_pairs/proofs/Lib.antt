pub mod Avoiding
mod Capping
mod PartTrees
mod Planning
mod Selecting
mod Totals
mod Verdicts
