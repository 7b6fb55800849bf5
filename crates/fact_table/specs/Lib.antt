pub mod Notes
pub mod Table
pub mod scoped_table
