mod Made
mod Naming
mod Shown
