pub mod Made
pub mod Walks
pub mod Laws
