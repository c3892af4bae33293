pub mod Copying
pub mod Lines
