pub mod CallKernels
pub mod Ends
pub mod FewerLevels
pub mod Plain
pub mod Results
pub mod Shown
pub mod Walks
