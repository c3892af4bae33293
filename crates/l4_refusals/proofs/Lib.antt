pub mod Searching
pub mod Wording
