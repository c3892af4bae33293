pub mod Entries
pub mod Faults
pub mod Files
pub mod Inside
pub mod Joining
pub mod Saved
pub mod Writing
