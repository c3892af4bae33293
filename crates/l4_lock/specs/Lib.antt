pub mod Receipts
pub mod Books
pub mod Locked
pub mod Shared
pub mod Closing
pub mod Lists
pub mod Inside
