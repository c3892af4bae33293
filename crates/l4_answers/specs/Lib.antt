pub mod Pages
pub mod Refusals
pub mod Replies
pub mod Lines
pub mod Reports
