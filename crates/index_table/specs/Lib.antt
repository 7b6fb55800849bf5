pub mod Notes
pub mod Numbers
pub mod Table
