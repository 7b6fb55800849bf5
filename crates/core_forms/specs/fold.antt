pub mod Copied
pub mod Fresh
pub mod Walks
pub mod Laws
