pub mod Sizes
pub mod Quoted
pub mod Hints
pub mod Reasons
