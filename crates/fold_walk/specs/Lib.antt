pub mod Left
pub mod Making
pub mod Pairing
pub mod Walking
pub mod fold_laws
