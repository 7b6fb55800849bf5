pub mod Openings
pub mod Mergeable
pub mod Inners
pub mod Filled
pub mod Seen
pub mod scalarisable
