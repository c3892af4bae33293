pub mod Fpages
pub mod Pages
pub mod Rights
