pub mod Answering
pub mod Delivering
pub mod Kept
pub mod Sound
pub mod Turns
