pub mod Answers
pub mod Claims
pub mod Inputs
pub mod Lines
pub mod Plans
pub mod Inside
