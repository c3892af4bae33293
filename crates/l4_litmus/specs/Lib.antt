pub mod Inside
pub mod Statuses
