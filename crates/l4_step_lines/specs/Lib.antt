pub mod Answers
pub mod Inside
pub mod Lists
pub mod ReadBack
pub mod Requests
pub mod Steps
pub mod Stops
