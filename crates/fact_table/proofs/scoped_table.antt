pub mod Marks
mod SlotFacts
mod NoteFacts
pub mod Mapped
