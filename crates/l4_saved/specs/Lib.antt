pub mod Inside
pub mod Pages
pub mod Stopping
pub mod Telling
