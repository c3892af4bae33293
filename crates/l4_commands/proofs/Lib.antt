pub mod InTurn
pub mod MessageWords
pub mod Hiding
pub mod Standing
