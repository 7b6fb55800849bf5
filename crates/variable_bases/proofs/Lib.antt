mod Learning
mod Notes
mod Groups
mod Told
mod Within
mod Scopes
