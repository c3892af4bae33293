pub mod Written
pub mod Same
pub mod Refusing
pub mod Forming
