pub mod Locking
pub mod Segmented
