pub mod Stops
pub mod Words
pub mod Texts
pub mod Inside
pub mod Scripts
pub mod Tellers
