pub mod Seated
pub mod Inside
