pub mod Blind
pub mod Cells
pub mod Chunks
mod Examples
pub mod Folds
pub mod Functions
pub mod Growing
pub mod Loops
pub mod Parts
pub mod PhaseCells
pub mod PhasedRuns
pub mod Phases
pub mod Runs
pub mod Spent
pub mod Steps
pub mod Uncut
pub mod Whole
