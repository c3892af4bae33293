pub mod Annotations
pub mod Chains
pub mod Histories
pub mod Inside
pub mod Moves
pub mod Telling
pub mod Absences
