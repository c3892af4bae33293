pub mod RoundTrip
pub mod Fitting
pub mod Bytes
pub mod Same
pub mod Kept
pub mod Several
pub mod Readers
pub mod Departing
