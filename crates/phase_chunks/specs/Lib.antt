pub mod Chunks
pub mod Seats
pub mod Answering
pub mod Gathering
