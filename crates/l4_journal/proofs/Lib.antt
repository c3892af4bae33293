pub mod RoundTrip
pub mod Storing
pub mod ReadRecords
