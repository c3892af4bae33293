pub mod Stored
pub mod ReadRecords
