pub mod Inside
pub mod Moved
pub mod Removals
