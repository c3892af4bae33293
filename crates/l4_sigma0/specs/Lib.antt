pub mod Owners
pub mod Inside
pub mod Listed
