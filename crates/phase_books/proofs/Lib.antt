pub mod Beginning
pub mod Booking
mod Counters
