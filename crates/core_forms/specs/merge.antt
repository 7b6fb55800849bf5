pub mod Fresh
pub mod Walks
pub mod Built
pub mod Laws
