pub mod Paging
pub mod Replaying
pub mod Telling
