pub mod Prefixes
pub mod Ends
pub mod Listing
pub mod Same
pub mod Writing
