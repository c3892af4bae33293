pub mod Listings
pub mod Words
pub mod Keys
