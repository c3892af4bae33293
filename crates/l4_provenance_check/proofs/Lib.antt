pub mod Followed
pub mod Alone
pub mod Judged
