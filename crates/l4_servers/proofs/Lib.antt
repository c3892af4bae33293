pub mod Answering
pub mod Kept
pub mod Finding
pub mod Numbers
