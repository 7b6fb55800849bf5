pub mod NoneLeft
pub mod Walking
pub mod Here
pub mod planned_merges
