mod MarkArms
mod MarkFunctions
mod MarkTurns
mod Unmarked
