pub mod Reporting
pub mod Running
pub mod Lengths
pub mod Stopping
pub mod Hearing
