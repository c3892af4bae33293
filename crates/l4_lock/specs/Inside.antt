pub mod Accounts
pub mod Closing
pub mod Entering
pub mod Noting
pub mod Sharing
pub mod Words
