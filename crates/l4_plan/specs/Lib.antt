pub mod Inside
pub mod Largest
pub mod Plan
pub mod Refusals
pub mod Shortest
