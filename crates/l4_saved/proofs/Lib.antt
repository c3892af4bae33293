pub mod Numbers
pub mod Paged
pub mod Told
pub mod Written
