pub mod Listings
pub mod Split
