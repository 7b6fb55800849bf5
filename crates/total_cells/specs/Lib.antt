pub mod Inside
pub mod Rights
pub mod Totals
pub mod loop_selections
