pub mod Claims
pub mod Inputs
