pub mod Annotating
pub mod Finding
pub mod Telling
pub mod Moving
