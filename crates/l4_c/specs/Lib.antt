pub mod Read
pub mod Checked
pub mod Exports
pub mod Judged
pub mod Planned
pub mod Served
pub mod Versions
pub mod Watched
