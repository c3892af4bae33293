pub mod Scripts
pub mod Telling
pub mod Entering
