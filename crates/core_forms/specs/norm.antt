pub mod Alike
pub mod Fresh
pub mod Copied
pub mod Walks
pub mod Laws
