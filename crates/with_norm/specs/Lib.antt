pub mod Normed
