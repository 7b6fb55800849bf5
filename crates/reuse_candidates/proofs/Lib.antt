mod BaseNotes
mod Called
pub mod Choices
mod Groups
mod OwnEnds
mod OwnRights
mod OwnTurns
mod Pairs
mod Plains
