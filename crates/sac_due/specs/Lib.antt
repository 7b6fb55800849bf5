pub mod Status
pub mod Texts
pub mod Report
pub mod Source
pub mod Input
pub mod Due
pub mod Answer
