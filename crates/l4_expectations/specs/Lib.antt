pub mod Copies
pub mod Expectations
pub mod Tests
pub mod Inside
