pub mod Numerals
pub mod Inside
