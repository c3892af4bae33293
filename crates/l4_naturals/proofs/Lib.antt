pub mod Adding
pub mod Printing
