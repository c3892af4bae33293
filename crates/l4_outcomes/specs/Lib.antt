pub mod Faults
pub mod Searching
pub mod Counts
