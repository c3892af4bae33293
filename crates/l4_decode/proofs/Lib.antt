pub mod Examples
pub mod Fields
pub mod Pieces
pub mod Same
