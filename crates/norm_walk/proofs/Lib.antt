pub mod Walking
mod Ends
mod Steps
