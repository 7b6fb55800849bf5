pub mod printing
