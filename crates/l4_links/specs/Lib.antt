pub mod Leads
pub mod ListOf
pub mod Entries
pub mod Inside
