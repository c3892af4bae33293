pub mod Packed
pub mod Joined
