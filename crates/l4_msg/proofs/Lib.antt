pub mod Covered
pub mod Examples
pub mod Landing
pub mod Parts
pub mod Pigeons
pub mod Reading
pub mod Rivals
pub mod Written
