pub mod Inside
pub mod Memory
