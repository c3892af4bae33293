pub mod Words
pub mod ItemLists
pub mod Codes
pub mod Reading
pub mod Inside
