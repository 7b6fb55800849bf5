mod Afters
mod Answered
mod Bodies
mod Fills
mod Free
mod Numbered
mod RangeLists
pub mod Sources
mod Walking
mod Works
