pub mod Plans
pub mod Tables
pub mod Orders
pub mod Serving
pub mod Progress
pub mod Mains
pub mod Served
pub mod groups
