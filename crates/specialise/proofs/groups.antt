pub mod Lists
pub mod Known
pub mod Choice
pub mod Outcomes
pub mod Formed
pub mod Results
