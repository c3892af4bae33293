pub mod Eight
pub mod Known
pub mod Nested
pub mod PageSizes
pub mod Powers
pub mod Same
pub mod Written
