pub mod Agreeing
pub mod Calls
pub mod Inside
pub mod Judging
pub mod Requests
pub mod Watching
