mod Axes
mod Groups
mod ParamFacts
mod Pairs
