pub mod Numbered
mod Apart
