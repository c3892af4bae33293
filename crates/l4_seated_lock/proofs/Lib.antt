pub mod Numbers
pub mod Counts
pub mod Keeping
pub mod Answering
pub mod Naming
pub mod Returned
pub mod Tracing
pub mod Forgetting
