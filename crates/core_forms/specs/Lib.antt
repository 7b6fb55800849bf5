pub mod edits
pub mod inlining
pub mod inlined_bodies
pub mod norm
pub mod merge
pub mod fold
pub mod cleaning
pub mod selections
