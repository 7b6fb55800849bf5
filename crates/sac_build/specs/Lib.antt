pub mod Arguments
pub mod Loops
pub mod Mains
pub mod loop_turns
