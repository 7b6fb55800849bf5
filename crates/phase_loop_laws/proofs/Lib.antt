pub mod Cells
pub mod FoldResults
pub mod Forms
pub mod Jobs
pub mod Pairs
pub mod Places
pub mod Results
pub mod Standing
