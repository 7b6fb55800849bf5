pub mod Endings
pub mod Listing
pub mod Owning
pub mod Pieces
pub mod Placements
