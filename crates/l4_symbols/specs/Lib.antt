pub mod Computed
pub mod Items
pub mod Messages
pub mod Reasons
pub mod Rows
pub mod Spelling
pub mod Texts
pub mod Words
