pub mod Checkpoints
pub mod Inside
