pub mod Messages
pub mod Moves
pub mod Protocols
pub mod Regions
pub mod Sizes
pub mod Tags
pub mod Words
