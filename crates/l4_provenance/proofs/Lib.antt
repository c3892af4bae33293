pub mod Snoc
pub mod Sofar
pub mod Back
pub mod Given
pub mod Moving
pub mod Watching
